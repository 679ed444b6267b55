-- The Take that is next by what is kept is the next one of the mesh, and it can be made.
use Rattle.std.specs.Prelude.{◌≡◌, ℕ, zero, suc, ◌+◌, Bool, true, List, ◌∷◌, length, map, Option, Some, None, option_map, if◌then◌else◌, [], ◌++◌}
use Rattle.std.specs.List.{enumerate_from, range_with_len}
use Rattle.std.specs.Option.{option_or}
use Rattle.std.proofs.Common.{refl, sym, ◌∙◌, ap, subst}
use Rattle.geo_model.specs.declared.step.Entry.{Entry}
use Rattle.geo_model.specs.declared.step.Step.{Step}
use Rattle.geo_model.specs.Laws.{NoneBusy}
use Rattle.geo_model.specs.Step.{is_enabled}
use Rattle.geo_model.specs.Words.{first_some}
use Rattle.geo_model.specs.World.{World, HeaderDisk}
use Rattle.geo_headline.specs.Sweep.{Waiting, candidates, enabled_one, first_take, head_of, next_of, next_take, waiting_for, pick_sweep}
use Rattle.geo_laws_sweep.proofs.ElevatorFacts.{next_holds}
use Rattle.geo_laws_sweep.proofs.Sweeping.{first_holds}
use Rattle.geo_drain.proofs.Waiting.{waiting_can_be_taken}
use Rattle.geo_drain.specs.Meshes.{MeshView, IsHistory, opened, world_of}
use Rattle.geo_drain.proofs.HandedOn.{disks_are_asked, firm_after}
use Rattle.geo_elev.specs.declared.disks.DiskHead.{DiskHead}
use Rattle.geo_elev.specs.Heads.{AreHeads, HeadsView, disk_head, first_by, take_by}
use Rattle.geo_elev.specs.Due.{before_takes, behind_takes, steps_before, steps_behind}
use Rattle.geo_model.specs.declared.step.Step.TheVariants as steps

-- at each disk
takes_same : (w : World) (log : List Entry) (low n : ℕ)
    → map take_by (enumerate_from low (map (disk_head w log) (range_with_len low n)))
    ≡ map (next_take w log) (range_with_len low n)
takes_same w log low zero = refl
takes_same w log low (suc n) = ap (λ xs. next_take w log low ∷ xs) (takes_same w log (low + 1) n)

-- so at the first that has one
pub first_is : (m : MeshView) → IsHistory m → (h : HeadsView) → AreHeads (opened m) m.log h
    → first_by h ≡ first_take (world_of m) m.log
first_is m history h are =
    ap (λ (ds : List DiskHead). first_some (map take_by (enumerate_from 0 ds))) are.disks
    ∙ ap first_some (takes_same (world_of m) m.log 0 (length (opened m).disks))
    ∙ ap (λ (ds : List HeaderDisk). first_some (map (next_take (world_of m) m.log) (range_with_len 0 (length ds))))
    (sym (disks_are_asked.disks m.plan m.facts history.plan.begins history.facts m.log history.lawful.0))

-- Where no bio is Busy

-- what is made of what is there has what each such has
of_some : {X : Type 0} (f : X → Step) (o : Option X) (P : Step → Type 0) → ((x : X) → o ≡ Some x → P (f x))
    → (s : Step) → option_map f o ≡ Some s → P s
of_some f None P so s e = absurd (let bad : ⊥ = cc in bad)
of_some f (Some x) P so s e = let same : f x ≡ s = cc in subst P same (so x refl)

-- what can be made is given
one_given : (w : World) (o : Option Step) → ((s : Step) → o ≡ Some s → is_enabled w 0 s ≡ true) → enabled_one w o ≡ o
one_given w None can = refl
one_given w (Some s) can = ap (λ (b : Bool). if b then Some s else None) (can s refl)

-- the Take that is next can be made
first_given : (m : MeshView) → IsHistory m → NoneBusy (world_of m)
    → enabled_one (world_of m) (first_take (world_of m) m.log) ≡ first_take (world_of m) m.log
first_given m history idle =
    one_given w (first_take w m.log)
    (first_holds (λ (s : Step). is_enabled w 0 s ≡ true) (next_take w m.log) at_disk
    (range_with_len 0 (length w.disks)))
  where
    w : World
    w = world_of m

    at_disk : (disk : ℕ) (s : Step) → next_take w m.log disk ≡ Some s → is_enabled w 0 s ≡ true
    at_disk disk =
        of_some (λ (y : Waiting). steps.Take disk y.bio)
        (next_of (head_of m.log disk) (candidates (waiting_for w disk))) (λ (s : Step). is_enabled w 0 s ≡ true)
        (λ y found. next_holds (λ (z : Waiting). is_enabled w 0 (steps.Take disk z.bio) ≡ true) (head_of m.log disk)
        (waiting_for w disk) y
        (waiting_can_be_taken w (firm_after m.plan m.facts history.plan.begins history.facts m.log) idle disk) found)

-- so what is first in the elevator order by what is kept is what is given of the mesh
pub next_given : (m : MeshView) → IsHistory m → NoneBusy (world_of m) → (h : HeadsView) → AreHeads (opened m) m.log h
    → first_by h ≡ enabled_one (world_of m) (first_take (world_of m) m.log)
next_given m history idle h are = first_is m history h are ∙ sym (first_given m history idle)

-- The elevator order by its parts: what comes before a Take, the Take, and what comes behind.

-- the first of three
or_or : (a b c : Option Step) → option_or a (option_or b c) ≡ option_or (option_or a b) c
or_or None b c = refl
or_or (Some s) b c = refl

-- the first of two rows
first_of : (xs ys : List (Option Step)) → first_some (xs ++ ys) ≡ option_or (first_some xs) (first_some ys)
first_of [] ys = refl
first_of (x ∷ xs) ys = ap (option_or x) (first_of xs ys) ∙ or_or x (first_some xs) (first_some ys)

module _ (w : World) (log : List Entry) where
  -- the Take
  abbrev the_take : Option Step
  the_take = enabled_one w (first_take w log)

  parts : pick_sweep w log ≡ option_or (before_takes w) (option_or the_take (behind_takes w))
  unfolding pick_sweep before_takes behind_takes
  parts = first_of (steps_before w) (the_take ∷ steps_behind w)

  -- what comes before a Take is due
  pub due_before : (s : Step) → Some s ≡ before_takes w → Some s ≡ pick_sweep w log
  due_before s is = sym (parts ∙ ap (λ o. option_or o (option_or the_take (behind_takes w))) (sym is))

  module _ (none : None ≡ before_takes w) where
    later : pick_sweep w log ≡ option_or the_take (behind_takes w)
    later = parts ∙ ap (λ o. option_or o (option_or the_take (behind_takes w))) (sym none)

    -- else the Take
    pub due_take : (s : Step) → Some s ≡ the_take → Some s ≡ pick_sweep w log
    due_take s is = sym (later ∙ ap (λ o. option_or o (behind_takes w)) (sym is))

    -- else what comes behind
    pub due_behind : (o : Option Step) → None ≡ the_take → o ≡ behind_takes w → o ≡ pick_sweep w log
    due_behind o no_take is = is ∙ sym (later ∙ ap (λ t. option_or t (behind_takes w)) (sym no_take))
