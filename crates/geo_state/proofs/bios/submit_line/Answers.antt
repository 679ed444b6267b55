use Rattle.std.proofs.Common.{refl, ap, ◌∙◌, ◌≡◌, Some, false}
use Rattle.geo_base.proofs.Options.{at-some}
use Rattle.geo_model.specs.declared.step.Owner.TheVariants as owners
use Rattle.geo_model.specs.World.{BioOf, Handle}
use Rattle.geo_model.specs.Bios.{new_bio}
use Rattle.geo_bio.specs.declared.bio.Held.{Held}
use Rattle.geo_handles.specs.Handles.{handle_at, handle_seen}
use Rattle.geo_state.specs.declared.state.State.{State}
use Rattle.geo_state.specs.Own.{entered}
use Rattle.geo_state.proofs.Moves.{holds-line, new-bio}
use Rattle.geo_state.proofs.bios.submit_line.Goals as goal

-- the handle that asks is the only one with the consumer, so it is its actor that has one request more out
pub returns-clause-kept : goal.returns-clause-kept
returns-clause-kept c =
    let s : State = c.args.state.now in
    let made : State = c.submit.new.state in
    let new : State = record made { own = c.enter.new.own } in
    let k : Handle = handle_seen c.args.handle c.in-Some.found.now in
    let x : BioOf Held = new_bio s.traffic.next c.args.bio.cmd c.args.bio.span.offset c.args.bio.span.len
    c.args.bio.bytes c.args.bio.from c.args.bio.to (owners.Line c.args.handle c.args.line) in
    let found : handle_at s.handles.handles c.args.handle ≡ Some k = c.in-Some.ensures.found in
    let asks = at-some (handle_at s.handles.handles c.args.handle)
    (λ (h : Handle). (h.consumer ≡ Some c.args.bio.from) × (h.dead ≡ false)) k found c.requires.asking.holds in
    let numbered = c.number.ensures ∙ c.in_ok-number.ensures.number in
    let was = ap (λ (z : State). z.own.items) c.in_ok-number.ensures.one in
    holds-line s new c.args.bio.from x c.in_ok-number.ensures.submitted
    (new-bio s.traffic.next c.args.bio.cmd c.args.bio.span.offset c.args.bio.span.len c.args.bio.bytes
    c.args.bio.from c.args.bio.to (owners.Line c.args.handle c.args.line)) c.requires.kept
    c.args.handle c.args.line k refl
    (c.get.ensures.apart c.args.bio.from) found asks.0 asks.1
    (c.enter.ensures ∙ ap (λ items. entered items k.actor c.number.result) was
    ∙ ap (λ n. entered s.own.items k.actor n) numbered)
    (ap (λ (z : State). let u : State = record z { own = c.enter.new.own } in u) c.in_ok-number.ensures.one)
