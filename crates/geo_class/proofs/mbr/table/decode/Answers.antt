use Rattle.std.proofs.Common.{◌≡◌, ℕ, Bool, true, false, not, List, [], ◌∷◌, Option, Ok, sym, ap, ◌∙◌, Result}
use Rattle.std.specs.Prelude.{◌==◌, is_some}
use Rattle.std.specs.List.{list_any, range_with_len}
use Rattle.geo_model.specs.DeclineCause.{DeclineCause}
use Rattle.geo_model.specs.DeclineCause.TheVariants.{Signature, Protective, Nothing}
use Rattle.geo_model.specs.declared.class.MbrTable.{MbrTable}
use Rattle.geo_model.specs.declared.class.Slice.{Slice}
use Rattle.geo_model.specs.Words.{first_error, unless}
use Rattle.geo_model.specs.Records.{has_signature, entry_type, kept_entries}
use Rattle.geo_class.proofs.mbr.table.decode.Goals as goal

-- what is answered, by the three tests
abbrev answer : Bool → Bool → Bool → MbrTable → Result MbrTable DeclineCause
answer signed protective kept table =
    unless (first_error ((not signed, Signature) ∷ ((protective, Protective) ∷ ((not kept, Nothing) ∷ [])))) table

abbrev is_protective : List ℕ → Bool
is_protective bytes = list_any (λ k. entry_type bytes k == 0xEE) (range_with_len 0 4)

abbrev is_any_kept : List ℕ → ℕ → Bool
is_any_kept bytes sectors = list_any is_some (kept_entries bytes sectors)

abbrev table_of : List (Option Slice) → MbrTable
table_of slices = record { slices = slices }

module _ (bytes : List ℕ) (sectors : ℕ) where
  -- the answer once it is known whether the signature is there
  by_signature : (a : Bool) {test : Bool} → test ≡ has_signature bytes → test ≡ a
      → answer (has_signature bytes) (is_protective bytes) (is_any_kept bytes sectors)
      (table_of (kept_entries bytes sectors))
      ≡ answer a (is_protective bytes) (is_any_kept bytes sectors) (table_of (kept_entries bytes sectors))
  by_signature a is told =
      ap (λ a. answer a (is_protective bytes) (is_any_kept bytes sectors) (table_of (kept_entries bytes sectors)))
      (sym is ∙ told)

  -- once it is known whether an entry is protective
  by_protective : (a : Bool) {test : Bool} → test ≡ is_protective bytes → test ≡ a
      → answer true (is_protective bytes) (is_any_kept bytes sectors) (table_of (kept_entries bytes sectors))
      ≡ answer true a (is_any_kept bytes sectors) (table_of (kept_entries bytes sectors))
  by_protective a is told =
      ap (λ a. answer true a (is_any_kept bytes sectors) (table_of (kept_entries bytes sectors))) (sym is ∙ told)

  -- and whether one is kept
  by_kept : (a : Bool) {test : Bool} → test ≡ is_any_kept bytes sectors → test ≡ a
      → answer true false (is_any_kept bytes sectors) (table_of (kept_entries bytes sectors))
      ≡ answer true false a (table_of (kept_entries bytes sectors))
  by_kept a is told = ap (λ a. answer true false a (table_of (kept_entries bytes sectors))) (sym is ∙ told)

-- Each way out: the tests come in the model's order, so the first that fails names the cause
pub returns-then-not-has_signature : goal.returns-then-not-has_signature
returns-then-not-has_signature c =
    sym (by_signature c.args.sector.now c.args.sectors false c.has_signature.ensures c.if-not-has_signature.true)

pub returns-then-is_protective : goal.returns-then-is_protective
returns-then-is_protective c =
    sym (by_signature c.args.sector.now c.args.sectors true c.has_signature.ensures c.if-not-has_signature.false
    ∙ by_protective c.args.sector.now c.args.sectors true c.is_protective.ensures c.if-is_protective.true)

pub returns-then-not-is_any_kept : goal.returns-then-not-is_any_kept
returns-then-not-is_any_kept c =
    sym (by_signature c.args.sector.now c.args.sectors true c.has_signature.ensures c.if-not-has_signature.false
    ∙ by_protective c.args.sector.now c.args.sectors false c.is_protective.ensures c.if-is_protective.false
    ∙ by_kept c.args.sector.now c.args.sectors false
    (c.is_any_kept.ensures ∙ ap (list_any is_some) c.kept_entries-slices.ensures) c.if-not-is_any_kept.true)

pub returns : goal.returns
returns c =
    sym (by_signature c.args.sector.now c.args.sectors true c.has_signature.ensures c.if-not-has_signature.false
    ∙ by_protective c.args.sector.now c.args.sectors false c.is_protective.ensures c.if-is_protective.false
    ∙ by_kept c.args.sector.now c.args.sectors true
    (c.is_any_kept.ensures ∙ ap (list_any is_some) c.kept_entries-slices.ensures) c.if-not-is_any_kept.false
    ∙ ap (λ slices. Ok (table_of slices)) (sym c.kept_entries-slices.ensures))
