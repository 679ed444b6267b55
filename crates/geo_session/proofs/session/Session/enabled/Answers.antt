use Rattle.std.proofs.Common.{◌∙◌, subst, sym}
use Rattle.geo_moves.proofs.Told.{none_told}
use Rattle.geo_session.specs.declared.live.Live.{Live}
use Rattle.geo_session.specs.Moves.{IsFoundAgainst}
use Rattle.geo_session.proofs.Reading.{enabled_is, read_stands, reads}
use Rattle.geo_session.proofs.session.Session.enabled.Goals as goal

pub found_against-requires : goal.found_against-requires
found_against-requires c = record { stands = read_stands (reads c.deref-2.ensures c.self.view_is c.self.invariant) }

pub returns : goal.returns
returns c =
    none_told c.found_against.result c.is_none.result c.is_none.ensures
    ∙ enabled_is (reads c.deref.ensures c.self.view_is c.self.invariant) c.args.seat c.args.step.now
    c.found_against.result
    (subst (λ (l : Live). IsFoundAgainst c.deref.result.now.actors l.state c.args.seat c.args.step.now
    c.found_against.result)
    (c.deref-2.ensures ∙ sym c.deref.ensures) c.found_against.ensures)
