use Rattle.std.proofs.Common.{refl, ap, ◌∙◌, ◌+◌, Some}
use Rattle.geo_model.specs.declared.step.Owner.TheVariants as owners
use Rattle.geo_model.specs.World.{BioOf}
use Rattle.geo_model.specs.Bios.{new_bio}
use Rattle.geo_bio.specs.declared.bio.Held.{Held}
use Rattle.geo_mesh.specs.Topo.{with_active}
use Rattle.geo_state.specs.declared.state.State.{State}
use Rattle.geo_state.proofs.Moves.{holds-read, new-bio}
use Rattle.geo_state.proofs.bios.submit_read.Goals as goal

-- no read of a taste was out and no handle has the consumer, so the new request is the taste's and no actor's
pub returns-clause-kept : goal.returns-clause-kept
returns-clause-kept c =
    let s : State = c.args.state.now in
    let made : State = c.submit.new.state in
    let new : State = record made { read = Some c.in_ok-number.number } in
    let x : BioOf Held = new_bio s.traffic.next c.args.bio.cmd c.args.bio.span.offset c.args.bio.span.len
    c.args.bio.bytes c.args.bio.from c.args.bio.to owners.Taste in
    holds-read s new c.args.bio.from x c.in_ok-number.ensures.submitted
    (new-bio s.traffic.next c.args.bio.cmd c.args.bio.span.offset c.args.bio.span.len c.args.bio.bytes
    c.args.bio.from c.args.bio.to owners.Taste) c.requires.kept
    refl c.requires.through.nobodys c.requires.none_out
    (ap (λ (z : State). let u : State = record z { read = Some c.in_ok-number.number } in u)
    c.in_ok-number.ensures.one
    ∙ ap (λ n. let u : State = record s {
      traffic = made.traffic;
      topo = with_active s.topo
          c.args.bio.from (λ m. m + 1);
      read = Some n;
    } in u) c.in_ok-number.ensures.number)
