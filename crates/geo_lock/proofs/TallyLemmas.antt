-- A tally's log after one more addition.
use Rattle.std.proofs.Common.{◌≡◌, ℕ, ◌+◌, ◌<◌, ◌≤◌, ◌^◌, List, [], ◌∷◌, ◌++◌, length, length-append, ◌∙◌, ap, arith}
use Rattle.geo_lock.specs.declared.tally.Added.{Added}
use Rattle.geo_lock.specs.Tally.{total, IsSummedFrom}

total_push : (log : List Added) (x : Added) → total (log ++ x ∷ []) ≡ total log + x.added
total_push [] x = omega arith
total_push (y ∷ log) x = let e = total_push log x in omega arith

pub sums_from_push : (n : ℕ) (log : List Added) (x : Added) → IsSummedFrom n log
    → x.sum ≡ (n + total log) + x.added → IsSummedFrom n (log ++ x ∷ [])
sums_from_push n [] x h e = (e ∙ ap (λ (z : ℕ). z + x.added) (omega arith), tt)
sums_from_push n (y ∷ log) x h e =
    let right : x.sum ≡ ((n + y.added) + total log) + x.added = omega arith in
    (h.0, sums_from_push (n + y.added) log x h.1 right)

pub pushed : (sum seat added : ℕ) (log : List Added) (now : ℕ) → (sum ≡ total log) × IsSummedFrom 0 log
    × (length log ≤ 2 ^ 32) → now ≡ sum + added → length log < 2 ^ 32
    → (let x : Added = record { seat = seat; added = added; sum = now } in (now ≡ total (log ++ x ∷ []))
    × IsSummedFrom 0 (log ++ x ∷ []) × (length (log ++ x ∷ []) ≤ 2 ^ 32))
pushed sum seat added log now h e l = let x : Added = record { seat = seat; added = added; sum = now } in let a =
    h.0 in let t = total_push log x in
    (omega arith, sums_from_push 0 log x h.1 (omega arith), omega (arith, length-append log (x ∷ [])))
