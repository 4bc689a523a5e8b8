-- Everything before the sender, from its parts: where the list stops, so does the front; where it ends, duration and issue decide.
use Prim.Native.Nat.{ℕ, ◌+◌, ◌≤◌}
use mathlib.Core.Path.{◌≡◌, sym, ap, ◌∙◌}
use mathlib.Core.List.{List}
use mathlib.Core.Bool.{true}
use lib.ListN.{length, take, drop}
use native.Mathlib.Omega.{arith}
use Rattle.std.specs.Prelude.{Ok, Err}
use Rattle.refusals.specs.declared.Refusal.{Refusal}
use Rattle.refusals.specs.declared.Refusal.TheVariants.{NoDurationAt, NoIssueAt}
use Rattle.codec.specs.Codec.{got, no, fits, is, field}
use Rattle.codec.proofs.Stages.{At, last, last_stop, left_inside}
use Rattle.header.specs.Header.{dash, start, origin, event, duration, issue, Front, front}
use Rattle.header.specs.Parts.{places, duration_and_issue}
use Rattle.header.proofs.Round.{front_law}
use Rattle.header.proofs.Stages.{at_13, no_list, at_times, no_duration, no_issue, both_times}
use Rattle.header_fields.specs.Says.{told}
use Rattle.header_fields.specs.declared.Issue.{Issue}
use Rattle.header_fields.proofs.Told.{stopped}
use Rattle.header_reading.specs.Steps.{PlacesAt, FrontOf}
use Rattle.header_reading.specs.declared.Opening.{Opening}

module _
    (t codes : List ℕ)
    (f5 : fits start (is dash) (drop 0 t) ≡ true)
    (f6 : fits origin (is dash) (drop 5 t) ≡ true)
    (f7 : fits event (is dash) (drop 9 t) ≡ true)
  where
    pub list_stops : (e : Refusal) → PlacesAt t 13 codes (Err e) → FrontOf t codes (Err e)
    list_stops e p =
        let s = stopped (Front × ℕ) (places.get (drop 13 t) 13) e p in
        s.says ∙ ap told (sym (no_list t _ (at_13 t f5 f6 f7) s.its s.at s.stops))

    module _ (c j : ℕ) (p : PlacesAt t 13 codes (Ok (c, j))) where
      pub list_ends : At t front 0 duration_and_issue j (λ b. (tt, (take 3 (drop 5 t), (take 3 (drop 9 t), (take c codes, b)))))
      list_ends = at_times t _ (at_13 t f5 f6 f7) (take c codes) j (sym p.0)

      pub no_minutes : no 9 j ≡ (field 9 duration dash).get (drop j t) j → FrontOf t codes (Err (NoDurationAt j))
      no_minutes e = sym (ap told (last_stop list_ends 9 j (sym (no_duration t j list_ends.inside e))))

      module _ (m : ℕ) (e : got m (drop (j + 5) t) (j + 5) ≡ (field 9 duration dash).get (drop j t) j) where
        pub no_moment : no 10 (j + 5) ≡ (field 10 issue dash).get (drop (j + 5) t) (j + 5) → FrontOf t codes (Err (NoIssueAt (j + 5)))
        no_moment w = sym (ap told (last_stop list_ends 10 (j + 5) (sym (no_issue t j list_ends.inside m e w))))

        pub times_end : (i : Issue) → got (i.day, (i.hour, i.minute)) (drop (j + 5 + 8) t) (j + 5 + 8) ≡ (field 10 issue dash).get (drop (j + 5) t) (j + 5)
            → FrontOf t codes (Ok (record { count = c; minutes = m; issue = i; at = j + 13 }))
        times_end i w =
            let x : j + 5 + 8 ≡ j + 13 = omega arith in
            let both = both_times t j list_ends.inside m e i.day i.hour i.minute w in
            (sym (last list_ends (m, (i.day, (i.hour, i.minute))) (drop (j + 13) t) (j + 13) (sym (rw x at both))), p.1)

pub front_inside : (t codes : List ℕ) (f : Opening) → FrontOf t codes (Ok f) → f.at ≤ length t
front_inside t codes f p = left_inside front front_law t 0 _ (drop f.at t) f.at (sym p.0) (omega arith)
