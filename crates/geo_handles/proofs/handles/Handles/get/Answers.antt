use Rattle.std.proofs.Common.{refl, sym, ◌∙◌, ap}
use Rattle.std.specs.Option.{option_map}
use Rattle.geo_slots.proofs.RowLemmas.{find-items}
use Rattle.geo_handles.specs.Handles.{handle_seen}
use Rattle.geo_handles.specs.Inside.{handle_row}
use Rattle.geo_handles.proofs.InsideLemmas.{held-apart}
use Rattle.geo_handles.proofs.handles.Handles.get.Goals as goal

-- numbers differ, so the handle of the number is that of the row
pub returns-clause-found : goal.returns-clause-found
returns-clause-found c =
    rw (← c.self.view_is)
    (find-items handle_row (λ h. h.number) (λ row. refl) c.args.id c.self.inside.inside.table.rows
    ∙ ap (option_map (handle_seen c.args.id)) (sym (rw c.number.ensures at c.get.ensures.value)))

pub returns-clause-apart : goal.returns-clause-apart
returns-clause-apart c = rw (← c.self.view_is) (held-apart c.self.inside.inside c.self.invariant)
