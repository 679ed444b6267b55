use Rattle.std.proofs.Common.{◌≤◌, ◌∙◌, Some, List, ap, arith, length, subst, sym}
use Rattle.geo_laws_making.proofs.NewSlices.{new_few}
use Rattle.geo_base.specs.declared.kind.Kind.TheVariants as kinds
use Rattle.geo_model.specs.Acceptance.{NewSlice, new_slices}
use Rattle.geo_model.specs.Names.{slice_name}
use Rattle.geo_model.specs.World.{Mbr}
use Rattle.geo_taste.specs.Making.{both}
use Rattle.geo_taste.specs.Parts.{ArePartsApart}
use Rattle.geo_taste.proofs.TableLemmas.{all_named, none_named, slices_differ, sliced_as, table_unnamed, unchanged}
use Rattle.geo_taste.proofs.tables.accept_slices.Goals as goal

-- one slice has no name, so the model makes no geom, and nothing was changed yet
pub returns-in_default-clause-made : goal.returns-in_default-clause-made
returns-in_default-clause-made c = (
  unchanged c.args.topo.now c.args.queue.now,
  λ facts. table_unnamed c.args.topo.now c.args.queue.now kinds.Mbr c.args.name.now
      (Mbr (Some c.args.topo.now.topology.next_consumer) c.args.table.now.slices) c.args.prov
      (new_slices c.args.name.now c.args.table.now.slices)
      (none_named _ (new_slices c.args.name.now c.args.table.now.slices) c.in_ok-parts.field-0
      c.in_ok-parts.ensures.named c.in_default.is),
)

-- the parts are the model's, all named, and their names differ since their places do
pub accept_parts-requires : goal.accept_parts-requires
accept_parts-requires c =
    let all = all_named _ (new_slices c.args.name.now c.args.table.now.slices) c.in_ok-parts.field-0
    c.in_ok-parts.ensures.named c.in-Some.parts c.in-Some.is c.deref.result.now c.deref.ensures.value in
    record {
      stands = c.requires.stands;
      names = all.names;
      apart = subst ArePartsApart (sym all.same) (slices_differ c.args.name.now c.args.table.now.slices);
    }

-- the geom's consumer is the one that comes next and the parts are the model's, so it is the model's table
pub returns-clause-made : goal.returns-clause-made
returns-clause-made c =
    let all = all_named _ (new_slices c.args.name.now c.args.table.now.slices) c.in_ok-parts.field-0
    c.in_ok-parts.ensures.named c.in-Some.parts c.in-Some.is c.deref.result.now c.deref.ensures.value in
    sliced_as (both c.args.topo.now c.args.queue.now) c.args.prov kinds.Mbr c.args.name.now c.accept_parts.result
    c.accept_parts.new.topo c.accept_parts.new.queue
    (c.mbr.ensures ∙ ap (λ n. Mbr (Some n) c.args.table.now.slices) c.coming_consumer.ensures.number) all.same
    c.accept_parts.ensures.made

-- there are no more slices than entries of the table, and four entries
pub returns-clause-spare : goal.returns-clause-spare
returns-clause-spare c =
    let all = all_named _ (new_slices c.args.name.now c.args.table.now.slices) c.in_ok-parts.field-0
    c.in_ok-parts.ensures.named c.in-Some.parts c.in-Some.is c.deref.result.now c.deref.ensures.value in
    let most : length c.deref.result.now ≤ length c.args.table.now.slices =
    subst (λ (xs : List NewSlice). length xs ≤ length c.args.table.now.slices) (sym all.same)
    (new_few (slice_name c.args.name.now) (λ s. s.count) 0 c.args.table.now.slices) in
    omega (arith, c.accept_parts.ensures.spare, most, c.slice_parts.ensures.few)
