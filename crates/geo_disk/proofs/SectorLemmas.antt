-- Bytes cut into sectors.
use Rattle.std.proofs.Common.{◌≡◌, ℕ, zero, suc, ◌+◌, ◌-◌, ◌*◌, ◌/◌, ◌%◌, ◌<◌, ◌≤◌, List, [], ◌∷◌, ◌++◌, length, take, drop, replicate, refl, arith, ◌∙◌, ap, sym, length-append, length-drop, length-take, length-take-le}
use Rattle.std.proofs.Math.Nat.{zero-mul, suc-mul, add_comm, mul_comm, add-mul, mul-le-mul_right, div-mul-le_self}
use Rattle.std.proofs.Math.Seq.{take-add}
use Rattle.std.proofs.lemmas.List.{drop-drop, drop-take, take-take, take-append-le, drop-append-le, take-replicate, drop-replicate}
use Rattle.std.proofs.lemmas.List.{take_all, take_at}
use Rattle.std.specs.List.{replace_range}
use Rattle.geo_base.specs.Written.{written_over}
use Rattle.geo_base.specs.Sectors.{bytes_between, cut_into, joined_sectors, sectors_of, with_sectors, zero_sectors}

-- one more sector, counted at the front
pub suc-mul_front : (n size : ℕ) → suc n * size ≡ size + n * size
suc-mul_front n size = suc-mul n size ∙ add_comm (n * size) size

-- bytes are cut into as many sectors as is said
pub length-cut_into : (n size : ℕ) (bytes : List ℕ) → length (cut_into n size bytes) ≡ n
length-cut_into zero size bytes = refl
length-cut_into (suc n) size bytes = ap suc (length-cut_into n size (drop size bytes))

-- the first sectors are those of the first bytes
pub take-cut_into : (k n size : ℕ) (bytes : List ℕ) → k ≤ n → take k (cut_into n size bytes) ≡ cut_into k size bytes
take-cut_into zero n size bytes inside = refl
take-cut_into (suc k) zero size bytes inside = absurd (omega arith)
take-cut_into (suc k) (suc n) size bytes inside =
    ap (λ rest. take size bytes ∷ rest) (take-cut_into k n size (drop size bytes) (omega arith))

-- the sectors from one on are those of the bytes from its place on
pub drop-cut_into : (k r n size : ℕ) (bytes : List ℕ) → n ≡ k + r
    → drop k (cut_into n size bytes) ≡ cut_into r size (drop (k * size) bytes)
drop-cut_into zero r n size bytes split =
    let same : n ≡ r = omega arith in
    rw (zero-mul size, same) refl
drop-cut_into (suc k) r zero size bytes split = absurd (omega arith)
drop-cut_into (suc k) r (suc n) size bytes split =
    drop-cut_into k r n size (drop size bytes) (omega arith)
    ∙ ap (cut_into r size) (drop-drop (k * size) size bytes ∙ ap (λ m. drop m bytes) (sym (suc-mul_front k size)))

-- the bytes of sectors that were cut are the bytes
pub joined-cut_into : (n size : ℕ) (bytes : List ℕ) → joined_sectors (cut_into n size bytes) ≡ take (n * size) bytes
joined-cut_into zero size bytes = rw (zero-mul size) refl
joined-cut_into (suc n) size bytes =
    ap (λ rest. take size bytes ++ rest) (joined-cut_into n size (drop size bytes))
    ∙ sym (take-add size (n * size) bytes) ∙ ap (λ m. take m bytes) (sym (suc-mul_front n size))

-- no bytes past the last sector matter
pub cut_into-take : (n size : ℕ) (bytes : List ℕ) → cut_into n size (take (n * size) bytes) ≡ cut_into n size bytes
cut_into-take zero size bytes = refl
cut_into-take (suc n) size bytes =
    rw (suc-mul_front n size, drop-take size (n * size) bytes, take-take size (size + n * size) bytes (omega arith))
    (ap (λ rest. take size bytes ∷ rest) (cut_into-take n size (drop size bytes)))

-- whole sectors and what is behind them
pub cut_into-append : (k r n size : ℕ) (front back : List ℕ) → n ≡ k + r → length front ≡ k * size
    → cut_into n size (front ++ back) ≡ cut_into k size front ++ cut_into r size back
cut_into-append zero r n size [] back split whole =
    let same : n ≡ r = omega arith in
    rw same refl
cut_into-append zero r n size (x ∷ front) back split whole = absurd (omega (arith, zero-mul size))
cut_into-append (suc k) r zero size front back split whole = absurd (omega arith)
cut_into-append (suc k) r (suc n) size front back split whole =
    let more : size ≤ length front = omega (arith, suc-mul_front k size) in
    rw (take-append-le size front back more, drop-append-le size front back more)
    (ap (λ rest. take size front ∷ rest)
    (cut_into-append k r n size (drop size front) back (omega arith) (length-drop size front
    ∙ omega (arith, suc-mul_front k size))))

-- bytes that are all zero are sectors of zeros
pub cut_into-zeros : (n size : ℕ) → cut_into n size (replicate (n * size) 0) ≡ zero_sectors n size
cut_into-zeros zero size = refl
cut_into-zeros (suc n) size =
    rw (
      suc-mul_front n size,
      take-replicate {X = ℕ} size (size + n * size) 0 (omega arith),
      drop-replicate {X = ℕ} size (size + n * size) 0,
    )
    (let rest : size + n * size - size ≡ n * size = omega arith in
    rw rest (ap (λ r. replicate size 0 ∷ r) (cut_into-zeros n size)))

-- the number of whole sectors
pub sectors_length : (size : ℕ) (bytes : List ℕ) → length (sectors_of size bytes) ≡ length bytes / size
sectors_length size bytes = length-cut_into (length bytes / size) size bytes

-- whole sectors inside a disk are bytes inside it
pub inside_bytes : (size bytes first part : ℕ) → part % size ≡ 0 → 0 < size → first + part / size ≤ bytes / size
    → first * size + part ≤ bytes
inside_bytes size bytes first part whole some inside =
    let upper : (first + part / size) * size ≤ bytes / size * size = mul-le-mul_right size inside in
    omega (arith, upper, div-mul-le_self bytes size, add-mul first (part / size) size, mul_comm size (part / size))

-- bytes that were replaced by as many are as many as before
pub length-replace_range : (from count : ℕ) (bytes part : List ℕ) → from + count ≤ length bytes → length part ≡ count
    → length (replace_range bytes from (from + count) part) ≡ length bytes
length-replace_range from count bytes part inside many =
    simp (length-append, length-take, length-drop) (omega (arith, inside, many))

-- bytes written over all bytes are what is there
pub written_over-all : (bytes new : List ℕ) → length new ≡ length bytes → written_over bytes new ≡ new
written_over-all bytes new many = take_at new (drop (length new) bytes) (length bytes) many

-- sectors whose bytes were replaced at a sector's place by those of m sectors
pub replaced_sectors : (size first m : ℕ) (bytes part : List ℕ) → 0 < size → length bytes % size ≡ 0
    → length part ≡ m * size → first + m ≤ length bytes / size
    → cut_into (length bytes / size) size (replace_range bytes (first * size) (first * size + m * size) part)
    ≡ with_sectors (sectors_of size bytes) first (cut_into m size part)
replaced_sectors size first m bytes part some whole many inside =
    let n : ℕ = length bytes / size in
    let r : ℕ = n - (first + m) in
    let bytes_are : length bytes ≡ n * size = omega (arith, mul_comm size (length bytes / size)) in
    let upper : (first + m) * size ≤ n * size = mul-le-mul_right size inside in
    let apart : (first + m) * size ≡ first * size + m * size = add-mul first m size in
    let front : List ℕ = take (first * size) bytes in
    let front_is : length front ≡ first * size = length-take-le (first * size) bytes (omega arith) in
    cut_into-append (first + m) r n size (front ++ part) (drop (first * size + m * size) bytes) (omega arith)
    (length-append front part ∙ omega arith)
    ∙ ap (λ xs. xs ++ cut_into r size (drop (first * size + m * size) bytes))
    (cut_into-append first m (first + m) size front part refl front_is)
    ∙ ap (λ xs. (xs ++ cut_into m size part) ++ cut_into r size (drop (first * size + m * size) bytes))
    (cut_into-take first size bytes ∙ sym (take-cut_into first n size bytes (omega arith)))
    ∙ ap (λ xs. (take first (sectors_of size bytes) ++ cut_into m size part) ++ xs)
    (ap (λ k. cut_into r size (drop k bytes)) (sym apart) ∙ sym (drop-cut_into (first + m) r n size bytes (omega arith))
    ∙ ap (λ k. drop (first + k) (sectors_of size bytes)) (sym (length-cut_into m size part)))

-- the sectors after a write
pub written_sectors : (size first m : ℕ) (bytes part new : List ℕ) → 0 < size → length bytes % size ≡ 0
    → length part ≡ m * size → first + m ≤ length bytes / size
    → new ≡ replace_range bytes (first * size) (first * size + m * size) part
    → sectors_of size (written_over bytes new) ≡ with_sectors (sectors_of size bytes) first (cut_into m size part)
written_sectors size first m bytes part new some whole many inside is =
    let upper : (first + m) * size ≤ length bytes / size * size = mul-le-mul_right size inside in
    let fits : first * size + m * size ≤ length bytes =
    omega (arith, add-mul first m size, div-mul-le_self (length bytes) size) in
    let as_many : length new ≡ length bytes =
    ap length is ∙ length-replace_range (first * size) (m * size) bytes part fits many in
    ap (sectors_of size) (written_over-all bytes new as_many) ∙ ap (λ k. cut_into (k / size) size new) as_many
    ∙ ap (cut_into (length bytes / size) size) is ∙ replaced_sectors size first m bytes part some whole many inside

-- with others in place of as many there are as many sectors
pub with_sectors_length : (held : List (List ℕ)) (first : ℕ) (news : List (List ℕ))
    → first + length news ≤ length held → length (with_sectors held first news) ≡ length held
with_sectors_length held first news inside = simp (length-append, length-take, length-drop) (omega (arith, inside))

-- the bytes of whole sectors are those that stand at their place
pub bytes_between-sectors_of : (size first count : ℕ) (bytes : List ℕ) → first + count ≤ length bytes / size
    → bytes_between (sectors_of size bytes) first count ≡ take (count * size) (drop (first * size) bytes)
bytes_between-sectors_of size first count bytes inside =
    let n : ℕ = length bytes / size in
    ap (λ xs. joined_sectors (take count xs)) (drop-cut_into first (n - first) n size bytes (omega arith))
    ∙ ap joined_sectors (take-cut_into count (n - first) size (drop (first * size) bytes) (omega arith))
    ∙ joined-cut_into count size (drop (first * size) bytes)

-- the bytes of so many of the whole sectors are as many as those sectors have
pub some_sectors : (size count : ℕ) (bytes : List ℕ) → count ≤ length bytes / size
    → length (take (count * size) bytes) ≡ count * size
some_sectors size count bytes some =
    let upper : count * size ≤ length bytes / size * size = mul-le-mul_right size some in
    length-take-le (count * size) bytes (omega (arith, div-mul-le_self (length bytes) size))

-- the bytes of the sectors of whole sectors are the bytes
pub joined-sectors_of : (size : ℕ) (bytes : List ℕ) → 0 < size → length bytes % size ≡ 0
    → joined_sectors (sectors_of size bytes) ≡ bytes
joined-sectors_of size bytes some whole =
    joined-cut_into (length bytes / size) size bytes
    ∙ take_all (length bytes / size * size) bytes (omega (arith, whole, some, mul_comm size (length bytes / size)))
