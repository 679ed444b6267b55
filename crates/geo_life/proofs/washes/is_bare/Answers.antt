use Rattle.std.proofs.Common.{sym, ap, ◌∙◌, ◌≡◌}
use Rattle.std.specs.Prelude.{is_none, ◌&&◌, ◌==◌, length, true, false}
use Rattle.geo_model.specs.Topology.{Provider, Consumer, providers_of, consumers_of}
use Rattle.geo_life.proofs.FirstWash.{none_first, told_none}
use Rattle.geo_life.proofs.washes.is_bare.Goals as goal

-- for both ways: a geom has no part of a kind just where none is found from number 0 on
pub returns-then-is_none : goal.returns-then-is_none
returns-then-is_none g c =
    let none : (length (providers_of c.args.topo.now.topology c.args.geom) == 0) ≡ true =
    sym (none_first (λ (x : Provider). x.number) (providers_of c.args.topo.now.topology c.args.geom))
    ∙ sym (told_none c.provider_of.result c.is_none.result c.is_none.ensures ∙ ap is_none c.provider_of.ensures.first)
    ∙ c.if-is_none.true in
    record {
      bare =
          told_none c.consumer_of.result c.is_none-then-is_none.result c.is_none-then-is_none.ensures
          ∙ ap is_none c.consumer_of.ensures.first
          ∙ none_first (λ (x : Consumer). x.number) (consumers_of c.args.topo.now.topology c.args.geom)
          ∙ sym (ap (λ b. b && (length (consumers_of c.args.topo.now.topology c.args.geom) == 0)) none);
    }

pub returns-else-is_none : goal.returns-else-is_none
returns-else-is_none g c =
    let some : (length (providers_of c.args.topo.now.topology c.args.geom) == 0) ≡ false =
    sym (none_first (λ (x : Provider). x.number) (providers_of c.args.topo.now.topology c.args.geom))
    ∙ sym (told_none c.provider_of.result c.is_none.result c.is_none.ensures ∙ ap is_none c.provider_of.ensures.first)
    ∙ c.if-is_none.false in
    record {
      bare = c.if-is_none.false
          ∙ sym (ap (λ b. b && (length (consumers_of c.args.topo.now.topology c.args.geom) == 0)) some);
    }
