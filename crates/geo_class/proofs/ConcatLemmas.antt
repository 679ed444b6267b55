-- Walks over components.
use Rattle.std.proofs.Common.{◌≡◌, ℕ, ◌+◌, ◌-◌, ◌≤◌, List, ◌++◌, length, drop, replicate, sum, ap, ◌∙◌, arith, length-append, length-drop}
use Rattle.std.proofs.lemmas.List.{drop-replicate, length-replicate}
use Rattle.std.proofs.Math.Seq.{drop-append_seam, take-append_seam}
use Rattle.geo_model.specs.TheConstants.{MAX_COMPONENTS, MAX_MEDIA_BYTES}
use Rattle.geo_model.specs.Place.{concat_stretches, cut}
use Rattle.geo_model.specs.declared.span.Piece.{Piece}
use Rattle.geo_class.specs.concat.Kept.{IsKept}

-- the walk has come to component k, which starts here
pub record PartsSoFar (o len : ℕ) (sizes : List ℕ) (k start : ℕ) (before now : List Piece) (spare : ℕ) : Type 0 where
  pub pieces : now ++ cut o len (concat_stretches k start (drop k sizes))
      ≡ before ++ cut o len (concat_stretches 0 0 sizes)
  pub fits : start + sum (drop k sizes) ≤ MAX_MEDIA_BYTES
  pub room : length sizes ≤ spare + k

-- sizes written into cells of zeros
pub kept_from : (sizes front zeros : List ℕ) → front ≡ sizes → length sizes ≤ MAX_COMPONENTS
    → sum sizes ≤ MAX_MEDIA_BYTES
    → zeros ≡ replicate MAX_COMPONENTS 0
    → IsKept (front ++ drop (length sizes) zeros) (length sizes)
kept_from sizes front zeros same few fits blank =
    let long : length (drop (length sizes) (replicate {A = ℕ} MAX_COMPONENTS 0)) ≡ MAX_COMPONENTS - length sizes =
    length-drop (length sizes) (replicate {A = ℕ} MAX_COMPONENTS 0)
    ∙ ap (λ n. n - length sizes) (length-replicate {A = ℕ} MAX_COMPONENTS 0) in
    rw (same, blank) (record {
      whole = length-append sizes _ ∙ (rw long (omega arith));
      few = few;
      rest = drop-append_seam sizes _ ∙ drop-replicate (length sizes) MAX_COMPONENTS 0;
      fits = rw (take-append_seam sizes (drop (length sizes) (replicate {A = ℕ} MAX_COMPONENTS 0))) fits;
    })
