-- Bytes that are read one part behind the other.
use Rattle.std.proofs.Common.{◌≡◌, ℕ, ◌+◌, ◌-◌, ◌<◌, ◌≤◌, Bool, ◌==◌, IsTrue, List, [], ◌++◌, length, take, drop, Option, Some, None, refl, sym, ◌∙◌, ap, subst, arith, length-drop, length-take-le}
use Rattle.std.proofs.Math.Seq.{take-add}
use Rattle.std.proofs.lemmas.List.{append-nil, drop_at, take-append-le, take_at}
use borrow.Rule.Slice.PartMut.{put_mid, post_of}
use Rattle.geo_io.specs.Counts.{raised}
use Rattle.geo_io.specs.Source.{Gives, GivesNothing, Goes, IsEnd, SourceView}
use Rattle.geo_io.proofs.SourceLemmas.{Gives-more, tail_range}
use Rattle.geo_serving.specs.declared.halt.Halt.{Halt}
use Rattle.geo_serving.specs.declared.halt.Halt.TheVariants.{Gone, ReadFault, WriteFault, NoMemory}
use Rattle.geo_serving.specs.Streams.{BreaksAt, CutsShort, IsCause}
use Rattle.geo_serving.proofs.Nothing.{goes_none}

-- what stands in front, when bytes were put behind it
pub read_more : (done n k : ℕ) (out part : List ℕ) → done < length out → n ≤ length part
    → take (done + n) (put_mid done k out part) ≡ take done out ++ take n part
read_more done n k out part fits few =
    let long : length (take done out) ≡ done = length-take-le done out (omega arith) in
    let rest : List ℕ = part ++ post_of done k out in
    take-add done n (take done out ++ rest)
    ∙ (ap (λ (x : List ℕ). x ++ take n (drop done (take done out ++ rest))) (take_at (take done out) rest done long)
    ∙ (ap (λ (x : List ℕ). take done out ++ take n x) (drop_at (take done out) rest done long)
    ∙ ap (λ (x : List ℕ). take done out ++ x) (take-append-le n part (post_of done k out) few)))

-- what was read stays inside
pub read_inside : (done n : ℕ) (out part : List ℕ) → done < length out → n ≤ length part
    → length part ≡ length (take (length out - done) (drop done out)) → done + n ≤ length out
read_inside done n out part fits few same =
    let tail : length (take (length out - done) (drop done out)) ≡ length (drop done out) =
    ap (λ (x : List ℕ). length x) (tail_range done out) in
    omega (arith, length-drop done out)

-- no byte was given
pub gives_no_bytes : (f r : SourceView) (n : ℕ) (xs : List ℕ) → n ≡ 0 → Gives f (take n xs) r → Gives f [] r
gives_no_bytes f r n xs e g = subst (λ (k : ℕ). Gives f (take k xs) r) e g

pub found_end : (n : ℕ) (ended : Bool) → n ≡ 0 → ended ≡ (n == 0) → IsTrue ended
found_end n ended e is = is ∙ ap (λ (k : ℕ). k == 0) e

-- nothing is left where nothing was, and nothing was taken
pub still_end : (a b : Option (List ℕ)) → Goes a [] b → IsEnd a → IsEnd b
still_end None None g e = tt
still_end None (Some b) g e = absurd g
still_end (Some a) None g e = absurd g
still_end (Some a) (Some b) g e = sym g ∙ e

-- a call that failed gave nothing
pub gives_nothing : (f r : SourceView) → GivesNothing f r → Gives f [] r
gives_nothing f r n = record {
  given = n.given ∙ sym (append-nil f.given);
  goes = subst (λ (x : Option (List ℕ)). Goes f.left [] x) (sym n.left) (goes_none f.left);
}

-- the cause is one of all reads, where no read failed before
cause_of_all : (halt : Halt) (f m r : SourceView) → m.faults ≡ f.faults → IsCause halt m r → IsCause halt f r
cause_of_all Gone f m r e h = h
cause_of_all ReadFault f m r e h = record { one = h.one ∙ ap raised e; last = h.last }
cause_of_all WriteFault f m r e h = absurd h
cause_of_all NoMemory f m r e h = absurd h

-- the first bytes were read, and then no more
pub cuts_short : (halt : Halt) (n : ℕ) (f m r : SourceView) (xs : List ℕ) → length xs < n → m.faults ≡ f.faults
    → Gives f xs m → BreaksAt halt m r → CutsShort halt n f r
cuts_short halt n f m r xs fewer e g b =
    record {
      bytes = xs;
      fewer = fewer;
      gives = subst (λ (x : List ℕ). Gives f x r) (append-nil xs) (Gives-more f m r xs [] g b.gives);
      cause = cause_of_all halt f m r e b.cause;
    }
