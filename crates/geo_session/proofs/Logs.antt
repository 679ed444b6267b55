-- An opening and a legal log of a plan that gets one more command.
use Rattle.std.specs.Prelude.{◌≡◌, ℕ, List, [], ◌∷◌, fold, filter, zip, not, Ok, Err, IsOkAnd}
use Rattle.std.specs.List.{enumerate_from}
use Rattle.std.proofs.Common.{refl, ap, sym, subst, ◌∙◌}
use Rattle.geo_model.specs.declared.command.DiskDecl.{DiskDecl}
use Rattle.geo_model.specs.declared.command.LineCommand.{LineCommand}
use Rattle.geo_model.specs.declared.step.Entry.{Entry}
use Rattle.geo_model.specs.GeomCommands.{stand}
use Rattle.geo_model.specs.Log.{IsMade, Legal, after_entry, replay, world_after}
use Rattle.geo_model.specs.Opening.{bare_world, disk_in_size, opening}
use Rattle.geo_model.specs.Step.{Answer, step}
use Rattle.geo_model.specs.World.{Plan, World}
use Rattle.geo_session.specs.Growth.{PlansMayGrow, plan_with, with_command}
use Rattle.geo_session.proofs.Lists.{left_in_plan}
use Rattle.geo_session.proofs.Steps.{step_more}

-- The opening

abbrev Item : Type 0
Item = ℕ × (DiskDecl × (ℕ × ℕ))

stands : (c : LineCommand) (w : World) (items : List Item)
    → fold (λ u item. stand u (item.0, disk_in_size item.1)) (with_command c w) items
    ≡ with_command c (fold (λ u item. stand u (item.0, disk_in_size item.1)) w items)
stands c w [] = refl
stands c w (item ∷ items) = stands c (stand w (item.0, disk_in_size item.1)) items

opens : (plan : Plan) (facts : List (ℕ × ℕ)) (c : LineCommand)
    → opening (plan_with plan c) facts ≡ with_command c (opening plan facts)
unfolding opening
opens plan facts c =
    let items : List Item = filter (λ item. not item.1.0.later) (enumerate_from 0 (zip plan.disks facts)) in
    ap (λ lists. fold (λ u item. stand u (item.0, disk_in_size item.1))
    (record (bare_world plan facts) { actors = lists }) items)
    (left_in_plan plan c)
    ∙ stands c (bare_world plan facts) items

-- Logs

-- the first entry, by what its step is answered
module _ (c : LineCommand) (w : World) (e : Entry) where
  record First : Type 0 where
    pub after : World
    pub does : step w e.seat e.step ≡ Ok (after, e.outcome)

  first_by : (a : Answer) → step w e.seat e.step ≡ a → IsOkAnd a (λ made. made.1 ≡ e.outcome) → First
  first_by (Ok made) is same = record { after = made.0; does = is ∙ ap (λ o. Ok (made.0, o)) same }
  first_by (Err found) is same = absurd same

  first : IsMade w e → First
  first made = first_by (step w e.seat e.step) refl made

  made_more : IsMade w e → IsMade (with_command c w) e
  made_more made =
      let x : First = first made in
      subst (λ a. IsOkAnd a (λ m. m.1 ≡ e.outcome)) (sym (step_more c w e.seat e.step x.after e.outcome x.does)) refl

  after_more : IsMade w e → after_entry (with_command c w) e ≡ with_command c (after_entry w e)
  after_more made =
      let x : First = first made in
      ap (λ a. world_after (with_command c w) a) (step_more c w e.seat e.step x.after e.outcome x.does)
      ∙ ap (λ a. with_command c (world_after w a)) (sym x.does)

legal : (w : World) (log : List Entry) (c : LineCommand) → Legal w log → Legal (with_command c w) log
legal w [] c is = tt
legal w (e ∷ log) c is = (
  made_more c w e is.0,
  subst (λ u. Legal u log) (sym (after_more c w e is.0)) (legal (after_entry w e) log c is.1),
)

world : (w : World) (log : List Entry) (c : LineCommand) → Legal w log
    → replay (with_command c w) log ≡ with_command c (replay w log)
world w [] c is = refl
world w (e ∷ log) c is =
    ap (λ u. replay u log) (after_more c w e is.0) ∙ world (after_entry w e) log c is.1

pub plans_may_grow : PlansMayGrow
plans_may_grow = record { opened = opens; legal = legal; world = world }
