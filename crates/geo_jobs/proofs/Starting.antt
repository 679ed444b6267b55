-- Tickets to start bios whose numbers follow one another.
use Rattle.std.specs.Prelude.{◌≡◌, ℕ, zero, suc, ◌+◌, ◌^◌, ◌<◌, ◌≤◌, ltb, Bool, cond, List, [], ◌∷◌, ◌++◌, filter, length, map}
use Rattle.std.specs.List.{range_with_len}
use Rattle.std.proofs.Common.{ap, arith, refl, subst, sym, ◌∙◌}
use Rattle.std.proofs.lemmas.List.{length-map, map-append}
use Rattle.std.proofs.lemmas.List.Elements.{filter-append}
use Rattle.std.proofs.lemmas.List.FromFn.{length-range_with_len}
use Rattle.std.proofs.lemmas.List.Sums.{count_by-le-length, length-filter}
use borrow.Author.Tests.{le-ltb, lt-ltb}
use Rattle.geo_lane.specs.declared.ticket.TicketStep.{TicketStep}
use Rattle.geo_lane.specs.declared.ticket.TicketStep.TheVariants as hints
use Rattle.geo_lane.specs.LanePass.{LanePassView}
use Rattle.geo_jobs.specs.Putting.{PutsAll, PutsOne}
use Rattle.geo_jobs.proofs.Tickets.{puts_join, puts_one}
use Rattle.geo_jobs.specs.Hints.{start_hints}

abbrev fits : ℕ → Bool
fits n = ltb n (2 ^ 64)

-- the ticket of one bio, by whether its number fits
abbrev if_fits : Bool → ℕ → List TicketStep
if_fits b n = map hints.Start (cond b (n ∷ []) [])

pub starts_one : (p q : LanePassView) (first k n : ℕ) → n ≡ first + k → n < 2 ^ 64 → PutsOne p (hints.Start n) q
    → PutsAll p (start_hints (first + k) 1) q
starts_one p q first k n is small one =
    subst (λ m. PutsAll p (start_hints m 1) q) is
    (subst (λ b. PutsAll p (if_fits b n) q) (sym (lt-ltb n (2 ^ 64) small)) (puts_one p (hints.Start n) q one))

pub starts_too_far : (p q : LanePassView) (n : ℕ) → 2 ^ 64 ≤ n → q ≡ p → PutsAll p (start_hints n 1) q
starts_too_far p q n large same =
    subst (λ b. PutsAll p (if_fits b n) q) (sym (le-ltb n (2 ^ 64) large)) same

pub starts_none : (p : LanePassView) (first : ℕ) → PutsAll p (start_hints first 0) p
starts_none p first = refl

-- one number more
last_number : (a n j : ℕ) → a + n ≡ j → range_with_len a (suc n) ≡ range_with_len a n ++ j ∷ []
last_number a zero j is = let same : a ≡ j = omega arith in ap (λ k. k ∷ []) same
last_number a (suc n) j is = ap (λ (ns : List ℕ). a ∷ ns) (last_number (a + 1) n j (omega arith))

more_numbers : (a n : ℕ) → range_with_len a (n + 1) ≡ range_with_len a n ++ (a + n) ∷ []
more_numbers a n = let one : n + 1 ≡ suc n = omega arith in ap (range_with_len a) one ∙ last_number a n (a + n) refl

more_hints : (first k : ℕ) → start_hints first (k + 1) ≡ start_hints first k ++ start_hints (first + k) 1
more_hints first k =
    ap (λ (ns : List ℕ). map hints.Start (filter fits ns)) (more_numbers first k)
    ∙ (ap (map hints.Start) (filter-append fits (range_with_len first k) ((first + k) ∷ []))
    ∙ map-append hints.Start (filter fits (range_with_len first k)) (filter fits ((first + k) ∷ [])))

pub starts_more : (p m q : LanePassView) (first k : ℕ) → PutsAll p (start_hints first k) m
    → PutsAll m (start_hints (first + k) 1) q → PutsAll p (start_hints first (k + 1)) q
starts_more p m q first k front one =
    subst (λ ss. PutsAll p ss q) (sym (more_hints first k))
    (puts_join p (start_hints first k) (start_hints (first + k) 1) m q front one)

-- there are no more tickets than bios
pub starts_length : (first count : ℕ) → length (start_hints first count) ≤ count
starts_length first count =
    let numbers = range_with_len first count in
    omega (
      arith,
      length-map (filter fits numbers) hints.Start,
      length-filter fits numbers,
      count_by-le-length fits numbers,
      length-range_with_len first count,
    )
