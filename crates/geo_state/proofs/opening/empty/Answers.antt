use Rattle.std.proofs.Common.{refl, ap, ◌∙◌}
use Rattle.geo_model.specs.World.{Config, Nothing}
use Rattle.geo_bio.specs.BioTable.{BioTableView}
use Rattle.geo_mesh.specs.Topo.{first_mesh}
use Rattle.geo_state.proofs.OpeningLemmas.{holds-empty}
use Rattle.geo_state.proofs.opening.empty.Goals as goal

pub returns-clause-empty : goal.returns-clause-empty
returns-clause-empty c = record {
  topo =
      c.in_ok-topo.ensures
      ∙ ap (λ (d : Config). first_mesh d c.nothing-tasting.result c.in_ok-topo.topo.room) c.nothing-dev.ensures
      ∙ ap (λ (d : Config). first_mesh Nothing d c.in_ok-topo.topo.room) c.nothing-tasting.ensures;
  events = c.new-queue.ensures;
  handles = c.in_ok-handles.ensures;
  bios = ap (λ (v : BioTableView). v.bios) c.new-traffic.ensures;
  next_bio = ap (λ (v : BioTableView). v.next) c.new-traffic.ensures;
  taste = refl;
  disks = refl;
  own = refl;
}

-- there is no request, so it is right that each seat is free and no actor has one out
pub returns-clause-kept : goal.returns-clause-kept
returns-clause-kept c =
    holds-empty _
    (c.in_ok-topo.ensures
    ∙ ap (λ (d : Config). first_mesh d c.nothing-tasting.result c.in_ok-topo.topo.room) c.nothing-dev.ensures
    ∙ ap (λ (d : Config). first_mesh Nothing d c.in_ok-topo.topo.room) c.nothing-tasting.ensures)
    c.in_ok-handles.ensures (ap (λ (v : BioTableView). v.bios) c.new-traffic.ensures) refl refl refl
    c.requires.free c.requires.none_out
