-- The page of any input fits the space that is lent for it, so it is printed; and the bytes that are written are the page.
use Rattle.std.proofs.Common.{ℕ, ◌≡◌, ◌+◌, ◌≤◌, List, length, take, drop, ap, sym, subst, ◌∙◌, arith}
use Rattle.std.proofs.Math.ListN.{length-replicate}
use Rattle.std.proofs.Math.Seq.{length-take-le, take-append_seam}
use Rattle.std.specs.Prelude.{Result, Ok, OnOk, is_ok}
use Rattle.std.specs.Io.KnownBytes.{Appends}
use Rattle.laws.specs.Space.{pasted}
use Rattle.refusals.specs.declared.Refusal.{Refusal}
use Rattle.page_printing.specs.Page.{page_room}
use Rattle.page.specs.Page.{page_of}
use Rattle.page.specs.Promise.{PagePromise}
use Rattle.page.proofs.Room.{page_in_room, page_printed, page_ok}
use Rattle.report_program.proofs.write_page.Goals as goal

-- what was pasted at the front of a space stands there
take_pasted : (n : ℕ) (d s : List ℕ) → n ≡ length s → take n (pasted d 0 s) ≡ s
unfolding pasted
take_pasted n d s e = rw e (take-append_seam s (drop (0 + length s) d))

-- so many bytes lie inside, and are the page
module _ {input out left : List ℕ} {r : Result ℕ Refusal} (n : ℕ) (p : PagePromise input out r left) (h : page_room ≤ length out) (e : r ≡ Ok n) where
  its_length : n ≡ length (page_of input)
  its_length = let q : Ok n ≡ Ok (length (page_of input)) = sym e ∙ page_ok p h in cc

  its_end : n ≤ length out
  its_end = omega (arith, its_length, page_in_room input)

  its_bytes : take n left ≡ page_of input
  its_bytes = ap (take n) (page_printed p h).1 ∙ take_pasted n out (page_of input) its_length

pub unwrap-n-requires : goal.unwrap-n-requires
unwrap-n-requires g c =
    let room = length-replicate {A = ℕ} 57446 0 in
    ap is_ok (page_ok c.page.ensures (omega arith))

pub slice_bounds-space-end : goal.slice_bounds-space-end
slice_bounds-space-end g c =
    let room = length-replicate {A = ℕ} 57446 0 in
    omega (arith, c.page.auto.out, its_end _ c.page.ensures (omega arith) c.unwrap-n.ensures)

pub slice_bounds-write_all-end : goal.slice_bounds-write_all-end
slice_bounds-write_all-end g c =
    let room = length-replicate {A = ℕ} 57446 0 in
    let inside : c.unwrap-n.result ≤ length c.page.new.out =
    omega (arith, c.page.auto.out, its_end _ c.page.ensures (omega arith) c.unwrap-n.ensures) in
    sym (length-take-le _ _ inside)

pub returns : goal.returns
returns g c =
    let room = length-replicate {A = ℕ} 57446 0 in
    let bytes = its_bytes _ c.page.ensures (omega arith) c.unwrap-n.ensures in
    subst (λ (xs : List ℕ). OnOk c.write_all.result (Appends (g.W.Write.contents c.args.out.now) (g.W.Write.contents c.write_all.new.self) xs)) bytes
    c.write_all.ensures.bytes
