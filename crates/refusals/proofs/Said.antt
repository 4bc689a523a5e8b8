-- What a refusal says is refused: it is never granted, what would come next is not said, and lent space is as it was found.
use Rattle.std.specs.Prelude.{◌≡◌, true, Result, Ok, Err, IsErr, IsErrAnd}
use mathlib.Core.Path.{refl, sym, ap, ◌∙◌}
use Rattle.laws.proofs.Tests.{impossible}
use Rattle.laws.proofs.Order.{refusal_leaves}
use Rattle.laws.specs.Order.{Said, granted, refused, is_refusal, next}
use Rattle.laws.specs.Space.{leaves}
use Rattle.refusals.specs.Refusals.{says, said}
use Rattle.refusals.specs.declared.Refusal.{Refusal}
use Rattle.refusals.specs.declared.Refusal.TheVariants.{LongBurst, NoText, ClashAt, LongText, NoStartAt, NoOriginAt, NoEventAt, NoPlaceAt, NoDurationAt, NoIssueAt, NoSenderAt, MoreAt, BadOrigin, BadEvent, BadPlaces, BadDuration, BadIssue, BadSender, NoRoom, NoSuchDay, BadClock, BadBook, BadClient, BadPlace, BadWish, StandsAlready, StandsNot, FullBook, Malformed}

pub says_refused : (A : Type 0) (e : Refusal) → is_refusal (says {A = A} e) ≡ true
says_refused A LongBurst = refl
says_refused A NoText = refl
says_refused A (ClashAt i) = refl
says_refused A LongText = refl
says_refused A (NoStartAt i) = refl
says_refused A (NoOriginAt i) = refl
says_refused A (NoEventAt i) = refl
says_refused A (NoPlaceAt i) = refl
says_refused A (NoDurationAt i) = refl
says_refused A (NoIssueAt i) = refl
says_refused A (NoSenderAt i) = refl
says_refused A (MoreAt i) = refl
says_refused A BadOrigin = refl
says_refused A BadEvent = refl
says_refused A BadPlaces = refl
says_refused A BadDuration = refl
says_refused A BadIssue = refl
says_refused A BadSender = refl
says_refused A NoRoom = refl
says_refused A NoSuchDay = refl
says_refused A BadClock = refl
says_refused A BadBook = refl
says_refused A BadClient = refl
says_refused A BadPlace = refl
says_refused A BadWish = refl
says_refused A StandsAlready = refl
says_refused A StandsNot = refl
says_refused A FullBook = refl
says_refused A Malformed = refl

-- a refusal is not granted
pub never_granted : {A X : Type 0} (e : Refusal) {a : A} → says e ≡ granted a → X
never_granted {A} e p = impossible (sym (ap is_refusal p) ∙ says_refused A e)

-- what comes next is not asked; the refusal is handed on as it is
pub next_refused : {A B : Type 0} (e : Refusal) (k : A → Said B) → next (says e) k ≡ says e
next_refused LongBurst k = refl
next_refused NoText k = refl
next_refused (ClashAt i) k = refl
next_refused LongText k = refl
next_refused (NoStartAt i) k = refl
next_refused (NoOriginAt i) k = refl
next_refused (NoEventAt i) k = refl
next_refused (NoPlaceAt i) k = refl
next_refused (NoDurationAt i) k = refl
next_refused (NoIssueAt i) k = refl
next_refused (NoSenderAt i) k = refl
next_refused (MoreAt i) k = refl
next_refused BadOrigin k = refl
next_refused BadEvent k = refl
next_refused BadPlaces k = refl
next_refused BadDuration k = refl
next_refused BadIssue k = refl
next_refused BadSender k = refl
next_refused NoRoom k = refl
next_refused NoSuchDay k = refl
next_refused BadClock k = refl
next_refused BadBook k = refl
next_refused BadClient k = refl
next_refused BadPlace k = refl
next_refused BadWish k = refl
next_refused StandsAlready k = refl
next_refused StandsNot k = refl
next_refused FullBook k = refl
next_refused Malformed k = refl

-- a refusal leaves lent space as found
pub leaves_refused : {A B : Type 0} (effect : A → B → B) (e : Refusal) (d : B) → leaves effect (says e) d ≡ d
leaves_refused {A} effect e d = refusal_leaves effect (says e) d (says_refused A e)

-- a refusal that `?` hands on
pub handed_on : {A : Type 0} {s : Said A} (e : Refusal) (r : Result A Refusal) → IsErr r × IsErrAnd r (λ y. y ≡ e) → says e ≡ s → said r ≡ s
handed_on e (Ok a) h p = absurd h.1
handed_on e (Err y) h p = ap says h.1 ∙ p

-- what it says, it says of every kind of value
pub says_moved : {A B : Type 0} (e : Refusal) (s : Said A) → says e ≡ s → next {B = B} s (λ a. refused 0) ≡ says e
says_moved e s p = ap (λ s. next s (λ a. refused 0)) (sym p) ∙ next_refused e (λ a. refused 0)
