-- Whether the generation after a step is another one, and which steps are of the graph.
use Rattle.std.specs.Prelude.{◌≡◌, ℕ, ◌+◌, ◌<◌, ◌≤◌, ◌==◌, ◌%◌, ◌^◌, ◌⊎◌, Bool, true, false, List, length, Option, Some, None, slice_get, option_and_then, if◌then◌else◌}
use Rattle.std.specs.Option.{option_map_or}
use Rattle.std.proofs.Common.{refl, sym, ap, ◌∙◌, inl, inr, arith}
use Rattle.std.proofs.Math.Nat.{mod-eq_of_lt, mod_self}
use Rattle.std.proofs.lemmas.Bool.{eq-eqb, ne_eqb}
use Rattle.std.proofs.lemmas.Nat.{mod_below}
use Rattle.geo_model.specs.declared.command.LineCommand.{LineCommand}
use Rattle.geo_model.specs.declared.step.Outcome.{Outcome}
use Rattle.geo_model.specs.declared.step.Outcome.TheVariants as outcomes
use Rattle.geo_model.specs.declared.step.Reply.{Reply}
use Rattle.geo_model.specs.declared.step.Step.{Step}
use Rattle.geo_model.specs.declared.step.Step.TheVariants as steps
use Rattle.geo_model.specs.History.{first_command}
use Rattle.geo_model.specs.World.{World}
use Rattle.geo_session.specs.Generation.{is_graph_command, is_of_graph, next_generation}
use Rattle.geo_session.specs.Session.{none_left}
use Rattle.geo_session.proofs.Nones.{none_at, none_beyond, none_or_less}
use Rattle.geo_tags.specs.Tokens.{changed_to}
use Rattle.geo_tags.proofs.Outcomes.{Tells}

-- one more is another one, counted up to a bound
rises : (a m : ℕ) → 1 < m → a ≡ (a + 1) % m → ⊥
rises a m many is = by (none_or_less m (a + 1)) where
  below : (a + 1) % m < m
  below = mod_below (a + 1) m (omega (arith, many))

  by : (a + 1 < m) ⊎ (m ≤ a + 1) → ⊥
  by (inl less) = let e : (a + 1) % m ≡ a + 1 = mod-eq_of_lt less in omega (arith, e, is)
  by (inr more) =
      let top : a + 1 ≡ m = omega (arith, below, is, more) in
      let e : (a + 1) % m ≡ 0 = rw top (mod_self m) in
      omega (arith, e, is, many, more)

-- none more is the same
none_more : (a m : ℕ) → a < m → (a + 0) % m ≡ a
none_more a m less = mod-eq_of_lt (omega (arith, less)) ∙ omega arith

-- it is another one exactly if it was raised
pub told_change : (a n : ℕ) (b : Bool) → a < 2 ^ 64 → n ≡ next_generation a b
    → changed_to a n ≡ (if b then Some n else None)
told_change a n false less is =
    ap (λ t. if t then None else Some n) (eq-eqb a n (sym (is ∙ none_more a (2 ^ 64) less)))
told_change a n true less is =
    ap (λ t. if t then None else Some n) (ne_eqb a n (λ same. rises a (2 ^ 64) (omega arith) (same ∙ is)))

-- where it is no other one it wasn't raised
pub unchanged : (b : Bool) (n : ℕ) → (if b then Some n else None) ≡ None → b ≡ false
unchanged false n is = refl
unchanged true n is = absurd (let no : ⊥ = cc is in no)

-- where it is another one it was
pub changes : (b : Bool) (n g : ℕ) → (if b then Some n else None) ≡ Some g → b ≡ true
changes true n g is = refl
changes false n g is = absurd (let no : ⊥ = cc is in no)

-- and that one is said
pub changed_is : (a n g : ℕ) → changed_to a n ≡ Some g → g ≡ n
changed_is a n g is = by (a == n) is where
  by : (t : Bool) → (if t then None else Some n) ≡ Some g → g ≡ n
  by true e = absurd (let no : ⊥ = cc e in no)
  by false e = cc

-- no Go is of the graph where no actor has a command left
go_quiet : (w : World) (actor : ℕ) (o : Outcome) → w.actors ≡ none_left (length w.actors)
    → is_of_graph w (steps.Go actor) o ≡ false
go_quiet w actor o none = by (none_or_less (length w.actors) actor) where
  told : Option (List LineCommand) → Bool
  told l = option_map_or (λ c. is_graph_command c.command) (option_and_then first_command l) false

  at : told (slice_get w.actors actor) ≡ told (slice_get (none_left (length w.actors)) actor)
  at = ap (λ (lists : List (List LineCommand)). told (slice_get lists actor)) none

  by : (actor < length w.actors) ⊎ (length w.actors ≤ actor) → is_of_graph w (steps.Go actor) o ≡ false
  by (inl less) = at ∙ ap told (none_at (length w.actors) actor less)
  by (inr less) = at ∙ ap told (none_beyond (length w.actors) actor less)

-- nor is then a step that replies
pub reply_quiet : (w : World) (s : Step) (line : ℕ) (reply : Reply) → w.actors ≡ none_left (length w.actors)
    → Tells s (outcomes.Replied line reply) → is_of_graph w s (outcomes.Replied line reply) ≡ false
reply_quiet w (steps.Go actor) line reply none tells = go_quiet w actor (outcomes.Replied line reply) none
reply_quiet w steps.Event line reply none tells = tells.1
reply_quiet w steps.Judge line reply none tells = tells.1
reply_quiet w steps.Reap line reply none tells = tells.1
reply_quiet w steps.Wash line reply none tells = tells.1
reply_quiet w _ line reply none tells = refl
