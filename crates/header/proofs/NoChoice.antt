-- What is said tells the answers apart, so two that meet a promise are equal; and a refusal writes nothing.
use Prim.Native.Nat.{ℕ}
use Rattle.std.specs.Prelude.{Result, Ok, Err}
use mathlib.Core.Path.{◌≡◌, refl, sym, ap, ◌∙◌}
use mathlib.Core.Bool.{Bool, true}
use mathlib.Core.List.{List}
use lib.ListN.{length}
use Rattle.laws.specs.Order.{Said, granted, refused, refused_at, is_refusal}
use Rattle.laws.specs.Space.{pasted}
use Rattle.laws.proofs.Clash.{clash}
use Rattle.laws.proofs.Order.{refusal_leaves}
use Rattle.refusals.specs.Refusals.{said}
use Rattle.refusals.specs.declared.Refusal.{Refusal}
use Rattle.refusals.proofs.Apart.{says_one}
use Rattle.refusals.proofs.Said.{never_granted}
use Rattle.refusals.proofs.NoChoice.{said_one as result_one}
use Rattle.header.specs.Header.{Alert, text_of}
use Rattle.header.specs.Reading.{read_says}
use Rattle.header.specs.Writing.{write_says}
use Rattle.header.specs.Answers.{said_read, fields_read, fields_for, no_fields, alert_in}
use Rattle.header.specs.Promise.{ReadPromise, WritePromise}
use Rattle.header.specs.Promise.{IsIssuePromise, IsDurationPromise, IsOriginPromise, IsEventPromise, IsSenderPromise, IsDurationOfPromise}
use Rattle.header.specs.declared.Fields.{Fields}

-- ---- what an answer says is one-to-one

pub said_one : (r s : Result Fields Refusal) → said_read r ≡ said_read s → fields_read r ≡ fields_read s → r ≡ s
said_one (Ok f) (Ok g) e h = ap Ok h
said_one (Ok f) (Err y) e h = never_granted y (sym e)
said_one (Err x) (Ok g) e h = never_granted x e
said_one (Err x) (Err y) e h = ap Err (says_one {A = Alert} x y e)

pub wrote_one : (r s : Result ℕ Refusal) → said r ≡ said s → r ≡ s
wrote_one r s e = result_one r s e

-- ---- read

pub read_no_choice : {t : List ℕ} {r s : Result Fields Refusal} → ReadPromise t r → ReadPromise t s → r ≡ s
read_no_choice {t} {r} {s} p q = said_one r s (p.says ∙ sym q.says) (p.fields ∙ sym q.fields)

-- it is lent no space; of a refused text it hands back no fields
pub read_refusal_writes_nothing : {t : List ℕ} {r : Result Fields Refusal} → ReadPromise t r → is_refusal (said_read r) ≡ true → fields_read r ≡ no_fields
read_refusal_writes_nothing {t} p h = p.fields ∙ go (read_says t) (sym (ap is_refusal p.says) ∙ h)
  where
    go : (s : Said Alert) → is_refusal s ≡ true → fields_for s ≡ no_fields
    go (granted a) h = clash cc
    go (refused n) h = refl
    go (refused_at n i) h = refl

-- ---- write

pub write_no_choice : {f : Fields} {d d1 d2 : List ℕ} {r s : Result ℕ Refusal} → WritePromise f d d1 r → WritePromise f d d2 s → (r ≡ s) × (d1 ≡ d2)
write_no_choice {r = r} {s = s} p q = (wrote_one r s (p.says ∙ sym q.says), p.space ∙ sym q.space)

pub write_refusal_writes_nothing : {f : Fields} {d d1 : List ℕ} {r : Result ℕ Refusal} → WritePromise f d d1 r → is_refusal (said r) ≡ true → d1 ≡ d
write_refusal_writes_nothing {f} {d} p h =
    p.space ∙ refusal_leaves (λ n out. pasted out 0 (text_of (alert_in f))) (write_says (alert_in f) (length d)) d (sym (ap is_refusal p.says) ∙ h)

-- ---- the tests

pub is_issue_no_choice : {d h m : ℕ} {r s : Bool} → IsIssuePromise d h m r → IsIssuePromise d h m s → r ≡ s
is_issue_no_choice p q = p.says ∙ sym q.says

pub is_duration_no_choice : {m : ℕ} {r s : Bool} → IsDurationPromise m r → IsDurationPromise m s → r ≡ s
is_duration_no_choice p q = p.says ∙ sym q.says

pub is_origin_no_choice : {b : List ℕ} {r s : Bool} → IsOriginPromise b r → IsOriginPromise b s → r ≡ s
is_origin_no_choice p q = p.says ∙ sym q.says

pub is_event_no_choice : {b : List ℕ} {r s : Bool} → IsEventPromise b r → IsEventPromise b s → r ≡ s
is_event_no_choice p q = p.says ∙ sym q.says

pub is_sender_no_choice : {b : List ℕ} {r s : Bool} → IsSenderPromise b r → IsSenderPromise b s → r ≡ s
is_sender_no_choice p q = p.says ∙ sym q.says

pub is_duration_of_no_choice : {h m : ℕ} {r s : Bool} → IsDurationOfPromise h m r → IsDurationOfPromise h m s → r ≡ s
is_duration_of_no_choice p q = p.says ∙ sym q.says
