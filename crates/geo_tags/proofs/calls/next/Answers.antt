use Rattle.std.specs.Prelude.{ℕ, ◌<◌, ◌^◌}
use Rattle.std.proofs.Common.{sym, ap, subst, ◌∙◌}
use Rattle.geo_model.proofs.FirmLemmas.{firm_of}
use Rattle.geo_session.specs.declared.refusal.SessionRefusal.{SessionRefusal}
use Rattle.geo_session.specs.Session.{IsRefusedFor}
use Rattle.geo_tags.specs.Tokens.{changed_to}
use Rattle.geo_tags.proofs.Enabled.{never_refused}
use Rattle.geo_tags.proofs.Handed.{expects, leaves_next, leaves_waits, stepped}
use Rattle.geo_tags.proofs.calls.next.Goals as goal

pub hand_out-requires : goal.hand_out-requires
hand_out-requires c =
    expects (stepped c.args.session.now c.step.new.self c.args.tokens.now c.requires.waits c.history.ensures.sound
    c.history.ensures.steady c.history.ensures.fitting c.in-Ok.ensures.answer c.taken_by-taken.ensures)

-- a step that is picked is enabled
pub unreachable-requires : goal.unreachable-requires
unreachable-requires c =
    let old = c.args.session.now in
    let refused =
    subst (λ (x : SessionRefusal). IsRefusedFor x old.world old c.step.new.self 0 c.in-Some.step)
    c.in-Err-NotEnabled.field-0-is c.in-Err-NotEnabled.ensures.answer in
    never_refused old.world
    (firm_of _ c.history.ensures.sound c.history.ensures.steady c.history.ensures.fitting) c.no_commands.ensures
    c.in-Some.step c.in-Err-NotEnabled.field-0-0 (sym c.pick.ensures ∙ c.in-Some.is) refused.0

pub returns-in-Ok : goal.returns-in-Ok
returns-in-Ok c =
    let it =
    stepped c.args.session.now c.step.new.self c.args.tokens.now c.requires.waits c.history.ensures.sound
    c.history.ensures.steady c.history.ensures.fitting c.in-Ok.ensures.answer c.taken_by-taken.ensures in
    let bound : c.args.session.now.generation < 2 ^ 64 =
    subst (λ (n : ℕ). n < 2 ^ 64) c.generation-before.ensures c.changed_to-changed.ensures.fits in
    record {
      waits = leaves_waits it c.hand_out.result c.changed_to-changed.result c.hand_out.new.tokens c.hand_out.ensures;
      nexts = leaves_next it c.hand_out.result c.changed_to-changed.result c.hand_out.new.tokens c.hand_out.ensures
          (sym c.pick.ensures ∙ c.in-Some.is) c.no_commands.ensures bound
          (c.changed_to-changed.ensures.changed
          ∙ ap (λ n. changed_to n c.generation-after.result) c.generation-before.ensures
          ∙ ap (changed_to c.args.session.now.generation) c.generation-after.ensures);
    }
