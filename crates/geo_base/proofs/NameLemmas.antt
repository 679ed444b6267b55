-- Names that are kept in 63 cells.
use Rattle.std.proofs.Common.{◌≡◌, ℕ, ◌≤◌, ◌<◌, ◌-◌, ◌+◌, ◌++◌, true, List, length, take, drop, replicate, refl, arith, ◌∙◌, ap, length-append, length-drop, None}
use Rattle.std.proofs.lemmas.Bool.Decides.{nat_tests}
use Rattle.std.proofs.lemmas.List.{drop-replicate, length-replicate}
use Rattle.std.proofs.Math.Seq.{drop-append_seam, take-append_seam}
use Rattle.std.proofs.lemmas.Slice.{take-put_mid}
use borrow.Rule.Slice.PartMut.{put_mid}
use Rattle.geo_base.specs.Name.{is_name, name_of}
use Rattle.geo_base.specs.Padded.{IsKeptName}

-- a name has at most 63 bytes
pub is_name-short : (bytes : List ℕ) → is_name bytes ≡ true → length bytes ≤ 63
is_name-short bytes named = grind (arith, nat_tests)

-- bytes that are too many for a name
pub name_of-long : (bytes : List ℕ) → 63 < length bytes → name_of bytes ≡ None
name_of-long bytes long = grind (arith, nat_tests)

-- a name in front of what is left of 63 zeros
pub kept_from : (bytes front zeros : List ℕ) → front ≡ bytes → is_name bytes ≡ true → zeros ≡ replicate 63 0
    → IsKeptName (front ++ drop (length bytes) zeros) (length bytes)
kept_from bytes front zeros same named blank =
    let short : length bytes ≤ 63 = is_name-short bytes named in
    let long : length (drop (length bytes) (replicate {A = ℕ} 63 0)) ≡ 63 - length bytes =
    length-drop (length bytes) (replicate {A = ℕ} 63 0) ∙ ap (λ n. n - length bytes) (length-replicate {A = ℕ} 63 0) in
    rw (same, blank) (record {
      size = length-append bytes _ ∙ (rw long (omega arith));
      fits = short;
      rest = drop-append_seam bytes _ ∙ drop-replicate (length bytes) 63 0;
      named = rw (take-append_seam bytes (drop (length bytes) (replicate {A = ℕ} 63 0))) named;
    })

-- two lists written one behind the other into cells stand there
pub joined_cells : (front tail blank first second : List ℕ) (k : ℕ) → first ≡ front → second ≡ tail →
    take (length front + length tail) (put_mid (length front) k (first ++ drop (length front) blank) second)
    ≡ front ++ tail
joined_cells front tail blank first second k same_first same_second =
    rw (same_first, same_second)
    (take-put_mid (length front) k (front ++ drop (length front) blank) tail (length front + length tail) refl
    (rw (length-append front (drop (length front) blank)) (omega arith))
    ∙ rw (take-append_seam front (drop (length front) blank)) refl)
