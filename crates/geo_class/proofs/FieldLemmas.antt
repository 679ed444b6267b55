-- Fields of a sector, and what stands behind them.
use Rattle.std.proofs.Common.{◌≡◌, ℕ, ◌+◌, ◌-◌, ◌≤◌, List, ◌++◌, length, take, drop, replicate, refl, sym, ap, ◌∙◌, arith, append_assoc, length-append, length-take-le}
use Rattle.std.proofs.lemmas.List.{take_at, drop_at, drop-replicate, length-replicate, replicate-append-replicate}
use Rattle.geo_model.specs.Records.{padded}
use Rattle.geo_model.proofs.RecordLemmas.{length-padded}

-- what stands in front of the zeros, and how many zeros there are
pub take-padded : (n k : ℕ) (front : List ℕ) → length front ≡ k → take k (padded n front) ≡ front
take-padded n k front size = take_at front (replicate (n - length front) 0) k size

pub drop-padded : (n k : ℕ) (front : List ℕ) → length front ≡ k → drop k (padded n front) ≡ replicate (n - k) 0
drop-padded n k front size = drop_at front (replicate (n - length front) 0) k size ∙ ap (λ m. replicate (n - m) 0) size

-- bytes written over the zeros behind the first k
pub put-zeros : (xs bytes : List ℕ) (k m : ℕ) → length bytes ≡ m → k + m ≤ length xs
    → drop k xs ≡ replicate (length xs - k) 0
    → take k xs ++ (bytes ++ drop m (drop k xs)) ≡ padded (length xs) (take k xs ++ bytes)
put-zeros xs bytes k m size room free =
    let behind : drop m (drop k xs) ≡ replicate (length xs - k - m) 0 =
    ap (drop m) free ∙ drop-replicate m (length xs - k) 0 in
    let taken : length (take k xs) ≡ k = length-take-le k xs (omega (arith, room)) in
    let rest : length xs - k - m ≡ length xs - length (take k xs ++ bytes) =
    omega (arith, length-append (take k xs) bytes, taken, size) in
    rw behind (ap (λ n. take k xs ++ (bytes ++ replicate n 0)) rest ∙ sym (append_assoc (take k xs) bytes _))

-- a sector that holds some bytes is zero behind them
pub free-behind : (n k : ℕ) (front xs : List ℕ) → xs ≡ padded n front → length front ≡ k → k ≤ n
    → drop k xs ≡ replicate (length xs - k) 0
free-behind n k front xs holds size fits =
    let long : length xs ≡ n = ap length holds ∙ length-padded n front (omega (arith, size, fits)) in
    ap (drop k) holds ∙ drop-padded n k front size ∙ ap (λ m. replicate (m - k) 0) (sym long)

-- a field written there
pub holds-behind : (n k : ℕ) (front field xs ys : List ℕ) → xs ≡ padded n front → length front ≡ k → k ≤ n
    → ys ≡ padded (length xs) (take k xs ++ field) → ys ≡ padded n (front ++ field)
holds-behind n k front field xs ys holds size fits written =
    let long : length xs ≡ n = ap length holds ∙ length-padded n front (omega (arith, size, fits)) in
    let taken : take k xs ≡ front = ap (take k) holds ∙ take-padded n k front size in
    written ∙ rw (long, taken) refl

-- zeros behind the last field are zeros of the sector
pub padded-padded : (n m : ℕ) (front last : List ℕ) → length last ≤ m → length front + m ≤ n
    → padded n (front ++ last) ≡ padded n (front ++ padded m last)
padded-padded n m front last few fits =
    let inner : length (front ++ padded m last) ≡ length front + m =
    length-append front (padded m last) ∙ ap (λ k. length front + k) (length-padded m last few) in
    let outer : length (front ++ last) ≡ length front + length last = length-append front last in
    let zeros : (m - length last) + (n - (length front + m))
    ≡ n - (length front + length last) = omega (arith, few, fits) in
    rw (inner, outer)
    (append_assoc front last (replicate (n - (length front + length last)) 0)
    ∙ ap (λ k. front ++ (last ++ replicate k 0)) (sym zeros)
    ∙ ap (λ ys. front ++ (last ++ ys)) (sym (replicate-append-replicate (m - length last) (n - (length front + m)) 0))
    ∙ sym (ap (λ ys. front ++ ys) (append_assoc last (replicate (m - length last) 0)
    (replicate (n - (length front + m)) 0)))
    ∙ sym (append_assoc front (last ++ replicate (m - length last) 0) (replicate (n - (length front + m)) 0)))

-- a first field written into zeros
pub holds_first : (n : ℕ) (field xs ys : List ℕ) → xs ≡ replicate n 0 → ys ≡ padded (length xs) (take 0 xs ++ field)
    → ys ≡ padded n field
holds_first n field xs ys blank written = written
    ∙ ap (λ m. padded m field) (ap length blank ∙ length-replicate {A = ℕ} n 0)

-- a field of m bytes behind k bytes
pub length-behind : (front field : List ℕ) (k m : ℕ) → length front ≡ k → length field ≡ m
    → length (front ++ field) ≡ k + m
length-behind front field k m size more = length-append front field ∙ omega (arith, size, more)
