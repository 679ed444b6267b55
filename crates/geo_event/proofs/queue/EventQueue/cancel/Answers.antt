use Rattle.std.proofs.Common.{rules, ◌∙◌, ap, ◌==◌, not}
use Rattle.std.proofs.lemmas.Fn.{filter_same}
use Rattle.geo_model.specs.Events.{provider_of_event, without_events_of}
use Rattle.geo_event.proofs.queue.EventQueue.cancel.Goals as goal

-- an event stays just where it names another provider, and those that stay keep their order
pub returns-clause-events : goal.returns-clause-events
returns-clause-events c =
    filter_same _ (λ e. not (provider_of_event e == c.args.prov)) _ (λ x b f' k. search rules) _ _
    c.retain.ensures.filtered ∙ ap (λ q. without_events_of q.events c.args.prov) c.self.view_is
