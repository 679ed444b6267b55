-- Bytes that are put into a file, each at its place.
use Rattle.std.proofs.Common.{◌≡◌, ℕ, suc, ◌+◌, ◌*◌, ◌/◌, ◌<◌, ◌∷◌, [], ◌++◌, ◌≤◌, List, length, take, drop, replicate, flat_map, refl, sym, ◌∙◌, ap, subst, arith, append_assoc, Result, Err}
use Rattle.std.proofs.lemmas.List.{append-nil, length-replicate, length-take-le, replicate-append-replicate, take-replicate}
use Rattle.std.proofs.lemmas.Grind.{flat_map-append}
use Rattle.std.proofs.Math.Seq.{take-add}
use Rattle.std.specs.List.{enumerate_from}
use Rattle.geo_disk.specs.declared.disk.DiskFailed.{DiskFailed}
use Rattle.geo_file.specs.Pieces.{Put, Puts, PutsSectors, placed}

-- the places of bytes go on behind those of the bytes before them
pub places_on : (at : ℕ) (xs ys : List ℕ)
    → enumerate_from at (xs ++ ys) ≡ enumerate_from at xs ++ enumerate_from (at + length xs) ys
places_on at [] ys = ap (λ n. enumerate_from n ys) (let e : at ≡ at + 0 = omega arith in e)
places_on at (x ∷ xs) ys =
    ap (λ ps. (at, x) ∷ ps)
    (places_on (at + 1) xs ys
    ∙ ap (λ n. enumerate_from (at + 1) xs ++ enumerate_from n ys)
    (let e : at + 1 + length xs ≡ at + suc (length xs) = omega arith in e))

-- where nothing is put, nothing changed
pub puts_none : (at : ℕ) (old : List Put) → Puts at [] old old
puts_none at old = sym (append-nil (placed old))

-- what one write puts
pub puts_piece : (at : ℕ) (bytes : List ℕ) (old : List Put)
    → Puts at bytes old (old ++ (record { at = at; bytes = bytes }) ∷ [])
puts_piece at bytes old =
    flat_map-append (λ (p : Put). enumerate_from p.at p.bytes) old ((record { at = at; bytes = bytes }) ∷ [])
    ∙ ap (λ ps. placed old ++ ps) (append-nil (enumerate_from at bytes))

-- bytes are put behind those that were put
pub puts_more : (at : ℕ) (xs ys : List ℕ) (old mid new : List Put) → Puts at xs old mid
    → Puts (at + length xs) ys mid new → Puts at (xs ++ ys) old new
puts_more at xs ys old mid new first more =
    more ∙ ap (λ ps. ps ++ enumerate_from (at + length xs) ys) first
    ∙ append_assoc (placed old) (enumerate_from at xs) (enumerate_from (at + length xs) ys)
    ∙ ap (λ ps. placed old ++ ps) (sym (places_on at xs ys))

-- a write puts the next bytes behind the first ones
pub puts_next : (at done count : ℕ) (bytes part : List ℕ) (old mid new : List Put) → part ≡ drop done bytes
    → done ≤ length bytes → Puts at (take done bytes) old mid
    → new ≡ mid ++ (record { at = at + done; bytes = take count part }) ∷ []
    → Puts at (take (done + count) bytes) old new
puts_next at done count bytes part old mid new is fits first told =
    subst (λ bs. Puts at bs old new) (sym (take-add done count bytes))
    (puts_more at (take done bytes) (take count (drop done bytes)) old mid new first
    (subst (λ n. Puts (at + n) (take count (drop done bytes)) mid new) (sym (length-take-le done bytes fits))
    (subst (λ bs. Puts (at + done) (take count bs) mid new) is
    (subst (λ puts. Puts (at + done) (take count part) mid puts) (sym told)
    (puts_piece (at + done) (take count part) mid)))))

-- zeros are put behind zeros
pub puts_zeros : (at done count : ℕ) (bytes : List ℕ) (old mid new : List Put) → bytes ≡ replicate count 0
    → Puts at (replicate done 0) old mid → Puts (at + done) bytes mid new → Puts at (replicate (done + count) 0) old new
puts_zeros at done count bytes old mid new is first more =
    subst (λ bs. Puts at bs old new) (replicate-append-replicate done count 0)
    (puts_more at (replicate done 0) (replicate count 0) old mid new first
    (subst (λ n. Puts (at + n) (replicate count 0) mid new) (sym (length-replicate done 0))
    (subst (λ bs. Puts (at + done) bs mid new) is more)))

-- so many zeros
abbrev pub zeros : ℕ → List ℕ
zeros n = replicate n 0

-- what is no longer than a beginning of zeros is no longer than that is to be
pub few_of : (n m k : ℕ) → n ≤ length (take m (zeros k)) → m ≤ k → n ≤ m
few_of n m k few within =
    subst (λ long. n ≤ long)
    (ap (λ (bs : List ℕ). length bs) (take-replicate m k 0 within) ∙ length-replicate m 0) few

-- a beginning of a beginning of zeros is zeros
pub zeros_of : (n m k : ℕ) → n ≤ length (take m (zeros k)) → m ≤ k → take n (take m (zeros k)) ≡ zeros n
zeros_of n m k few within =
    ap (λ (bs : List ℕ). take n bs) (take-replicate m k 0 within) ∙ take-replicate n m 0 (few_of n m k few within)

-- fewer zeros than were asked for were put, and of how many sectors is told
pub fewer_told : (first count n sector : ℕ) (answer : Result (Unit {0}) DiskFailed) (old new : List Put)
    → answer ≡ Err (record { done = n / sector }) → n < count * sector → Puts (first * sector) (zeros n) old new
    → PutsSectors answer sector first (zeros (count * sector)) old new
fewer_told first count n sector answer old new is fewer puts =
    rw is (
      n,
      omega (arith, length-replicate {A = ℕ} (count * sector) 0),
      refl,
      subst (λ bs. Puts (first * sector) bs old new)
          (sym (take-replicate {X = ℕ} n (count * sector) 0 (omega arith))) puts,
    )
