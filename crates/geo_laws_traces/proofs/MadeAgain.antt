-- The steps of a legal log make it again, what steps make is legal, and what a Yes means.
use Rattle.std.proofs.Common.{◌≡◌, ℕ, List, [], ◌∷◌, Ok, Err, IsOkAnd, refl, sym, subst}
use Rattle.geo_model.specs.declared.step.Entry.{Entry}
use Rattle.geo_model.specs.declared.step.Step.{Step}
use Rattle.geo_model.specs.World.{World}
use Rattle.geo_model.specs.Step.{Answer, step}
use Rattle.geo_model.specs.Log.{made, entry_by, world_after, after_entry, Legal, IsMade}
use Rattle.geo_headline.specs.Traces.{steps_of}
use Rattle.geo_headline.specs.Verifying.{MadeAgain, MadeIsLegal}

-- one step, by its answer
one_again : (e : Entry) (a : Answer) (rest log : List Entry) → IsOkAnd a (λ made. made.1 ≡ e.outcome) → rest ≡ log
    → entry_by (e.seat, e.step) a rest ≡ e ∷ log
one_again e (Ok m) rest log is same = rw (is, same) refl
one_again e (Err found) rest log is same = absurd is

pub made_again : MadeAgain
made_again w [] legal = refl
made_again w (e ∷ log) legal =
    one_again e (step w e.seat e.step) (made (after_entry w e) (steps_of log)) log legal.0
    (made_again (after_entry w e) log legal.1)

-- what one step makes
one_legal : (w : World) (item : ℕ × Step) (a : Answer) → step w item.0 item.1 ≡ a → (rest : List Entry)
    → Legal (world_after w a) rest → Legal w (entry_by item a rest)
one_legal w item (Ok m) is rest legal =
    let e : Entry = record { seat = item.0; step = item.1; outcome = m.1 } in
    let here : IsMade w e = rw is refl in
    let after : after_entry w e ≡ m.0 = rw is refl in
    (here, subst (λ (v : World). Legal v rest) (sym after) legal)
one_legal w item (Err found) is rest legal = tt

pub made_is_legal : MadeIsLegal
made_is_legal w [] = tt
made_is_legal w (item ∷ items) =
    one_legal w item (step w item.0 item.1) refl (made (world_after w (step w item.0 item.1)) items)
    (made_is_legal (world_after w (step w item.0 item.1)) items)
