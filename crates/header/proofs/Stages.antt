-- After each field that stands, what is left of the table reads on from there: so a field that does not stand stops the whole.
use Prim.Native.Nat.{ℕ, ◌+◌, ◌≤◌}
use mathlib.Core.Path.{◌≡◌, refl, sym}
use mathlib.Core.List.{List}
use mathlib.Core.Bool.{true, false}
use native.Mathlib.Omega.{arith}
use lib.ListN.{length, take, drop}
use Rattle.codec.specs.Codec.{got, no, fits, is, Codec, field, ◌▷◌}
use Rattle.codec.specs.Law.{Lawful}
use Rattle.codec.proofs.CodecLaws.{field_law}
use Rattle.codec.proofs.Stages.{At, begin, stop, next, last, last_stop, field_no, field_yes}
use Rattle.header.specs.Header.{dash, start, origin, event, duration, issue, Front, front}
use Rattle.header.specs.Parts.{places, duration_and_issue}
use Rattle.header.proofs.Round.{start_law, origin_law, event_law, duration_law, places_law}

-- ---- what is left of the table

abbrev c8 : Codec (List ℕ × (ℕ × (ℕ × (ℕ × ℕ))))
c8 = places ▷ duration_and_issue

abbrev c7 : Codec (List ℕ × (List ℕ × (ℕ × (ℕ × (ℕ × ℕ)))))
c7 = field 7 event dash ▷ c8

abbrev c6 : Codec (List ℕ × (List ℕ × (List ℕ × (ℕ × (ℕ × (ℕ × ℕ))))))
c6 = field 6 origin dash ▷ c7

list_lawful : Lawful places
unfolding places
list_lawful = places_law

-- ---- start, origin and event

module _ (t : List ℕ) where
  at_0 : At t front 0 (field 5 start dash ▷ c6) 0 (λ h. h)
  unfolding front places duration_and_issue
  at_0 = begin t front 0 (omega arith)

  pub no_start : fits start (is dash) (drop 0 t) ≡ false → front.get t 0 ≡ no 5 0
  no_start h = stop (field 5 start dash) c6 at_0 5 0 (sym (field_no 5 start dash t 0 h))

  module _ (f5 : fits start (is dash) (drop 0 t) ≡ true) where
    pub at_5 : At t front 0 c6 5 (λ b. (tt, b))
    at_5 = next (field 5 start dash) c6 at_0 (field_law 5 start dash start_law) tt (drop 5 t) 5 (sym (field_yes 5 start dash t 0 tt f5 refl))

    pub no_origin : fits origin (is dash) (drop 5 t) ≡ false → front.get t 0 ≡ no 6 5
    no_origin h = stop (field 6 origin dash) c7 at_5 6 5 (sym (field_no 6 origin dash t 5 h))

    module _ (f6 : fits origin (is dash) (drop 5 t) ≡ true) where
      pub at_9 : At t front 0 c7 9 (λ b. (tt, (take 3 (drop 5 t), b)))
      at_9 =
          next (field 6 origin dash) c7 at_5 (field_law 6 origin dash origin_law) (take 3 (drop 5 t)) (drop 9 t) 9
          (sym (field_yes 6 origin dash t 5 (take 3 (drop 5 t)) f6 refl))

      pub no_event : fits event (is dash) (drop 9 t) ≡ false → front.get t 0 ≡ no 7 9
      no_event h = stop (field 7 event dash) c8 at_9 7 9 (sym (field_no 7 event dash t 9 h))

      pub at_13 : fits event (is dash) (drop 9 t) ≡ true → At t front 0 c8 13 (λ b. (tt, (take 3 (drop 5 t), (take 3 (drop 9 t), b))))
      at_13 f7 =
          next (field 7 event dash) c8 at_9 (field_law 7 event dash event_law) (take 3 (drop 9 t)) (drop 13 t) 13
          (sym (field_yes 7 event dash t 9 (take 3 (drop 9 t)) f7 refl))

-- ---- the places, duration and issue

module _ (t : List ℕ) (f : List ℕ × (ℕ × (ℕ × (ℕ × ℕ))) → Front) (a : At t front 0 c8 13 f) where
  pub no_list : (n i : ℕ) → places.get (drop 13 t) 13 ≡ no n i → front.get t 0 ≡ no n i
  no_list n i h = stop places duration_and_issue a n i h

  pub at_times : (ps : List ℕ) (j : ℕ) → places.get (drop 13 t) 13 ≡ got ps (drop j t) j → At t front 0 duration_and_issue j (λ b. f (ps, b))
  at_times ps j h = next places duration_and_issue a list_lawful ps (drop j t) j h

-- ---- duration and issue by themselves

module _ (t : List ℕ) (at : ℕ) (h : at ≤ length t) where
  at_9' : At t duration_and_issue at (field 9 duration dash ▷ field 10 issue dash) at (λ b. b)
  unfolding duration_and_issue
  at_9' = begin t duration_and_issue at h

  pub no_duration : no 9 at ≡ (field 9 duration dash).get (drop at t) at → no 9 at ≡ duration_and_issue.get (drop at t) at
  no_duration e = sym (stop (field 9 duration dash) (field 10 issue dash) at_9' 9 at (sym e))

  module _ (m : ℕ) (e9 : got m (drop (at + 5) t) (at + 5) ≡ (field 9 duration dash).get (drop at t) at) where
    pub at_issue : At t duration_and_issue at (field 10 issue dash) (at + 5) (λ b. (m, b))
    at_issue = next (field 9 duration dash) (field 10 issue dash) at_9' (field_law 9 duration dash duration_law) m (drop (at + 5) t) (at + 5) (sym e9)

    pub no_issue : no 10 (at + 5) ≡ (field 10 issue dash).get (drop (at + 5) t) (at + 5) → no 10 (at + 5) ≡ duration_and_issue.get (drop at t) at
    no_issue e = sym (last_stop at_issue 10 (at + 5) (sym e))

    pub both_times : (d h n : ℕ) → got (d, (h, n)) (drop (at + 5 + 8) t) (at + 5 + 8) ≡ (field 10 issue dash).get (drop (at + 5) t) (at + 5)
        → got (m, (d, (h, n))) (drop (at + 5 + 8) t) (at + 5 + 8) ≡ duration_and_issue.get (drop at t) at
    both_times d h n e = sym (last at_issue (d, (h, n)) (drop (at + 5 + 8) t) (at + 5 + 8) (sym e))
