-- A job whose turns are in vain until the log grows: its idle turn, and how a job comes to be quiet.
use Rattle.std.specs.Prelude.{◌≡◌, ◌==◌, ℕ, true, false, List, [], ◌∷◌, ◌++◌, length}
use Rattle.std.proofs.Common.{ap, append-nil, arith, refl, subst, sym, ◌∙◌}
use Rattle.std.proofs.lemmas.Bool.Decides.{nat_tests}
use Rattle.std.proofs.lemmas.List.{length-append}
use mathlib.Core.List.{IsPrefix}
use Rattle.geo_disk.specs.declared.drive.Drive.{Drive}
use Rattle.geo_model.specs.declared.step.Entry.{Entry}
use Rattle.geo_model.specs.declared.step.Step.{Step}
use Rattle.geo_model.specs.World.{World}
use Rattle.geo_model.specs.FixedOrder.{WasIdle}
use Rattle.geo_model.specs.Passes.{entries_of_seat}
use Rattle.geo_serve.specs.Drives.{DriveView}
use Rattle.geo_lock.specs.Yard.{IsPassOf, YardView}
use Rattle.geo_jobs.specs.declared.turn.Turn.{Turn}
use Rattle.geo_jobs.specs.declared.turn.Turn.TheVariants as turns
use Rattle.geo_jobs.specs.declared.lanes.Lanes.{Lanes}
use Rattle.geo_jobs.specs.Passes.{Goes, MeshPass, opened_by}
use Rattle.geo_jobs.proofs.Joins.{goes_self}
use Rattle.geo_jobs.specs.declared.client.ClientJob.{ClientJob}
use Rattle.geo_jobs.specs.declared.job.Job.{Job}
use Rattle.geo_jobs.specs.declared.job.Role.{Role}
use Rattle.geo_jobs.specs.declared.job.Role.TheVariants as roles
use Rattle.geo_jobs.specs.Clients.{IsWaiting}
use Rattle.geo_jobs.specs.Events.{AreInVain}
use Rattle.geo_jobs.specs.Jobs.{DidRole, DidTurn, IsJobOf, IsQuiet, IsRoleOf, is_in_vain, is_role_in_vain}
use Rattle.geo_jobs.specs.Kinds.{event_steps}
use Rattle.geo_jobs.specs.LanePasses.{Rests}

-- An idle turn of a quiet job

-- a job that does nothing rests
rests_as_it_is : {J : Type 0} (p : MeshPass) (a : J) → Rests p p a a
rests_as_it_is p a = record { goes = goes_self p; same = refl }

-- a quiet role is idle, and nothing is done
quiet_role : {D : Type 0} (opened : World) (seen : Drive D → DriveView) (p : MeshPass) (a : Role D)
    → IsQuiet opened p a → DidRole opened seen p p a a turns.Idle
quiet_role opened seen p (roles.Client a) quiet = (rests_as_it_is p a, quiet)
quiet_role opened seen p (roles.Events a) quiet = (rests_as_it_is p a, quiet)
quiet_role opened seen p a quiet = absurd quiet

pub quiet_idles : {D : Type 0} (y : YardView _) (lanes : Lanes) (seen : Drive D → DriveView) (a : Job D)
    → IsJobOf y lanes a → a.quiet ≡ true → DidTurn (opened_by y.start) seen a a turns.Idle
unfolding DidTurn
quiet_idles y lanes seen a is quiet = quiet_role (opened_by y.start) seen a.pass a.role (is.quiet quiet)

-- How a job comes to be quiet

-- a beginning that is as long as the whole is the whole
none_more : {A : Type 0} (xs ys rest : List A) → xs ++ rest ≡ ys → length rest ≡ 0 → xs ≡ ys
none_more xs ys [] is none = sym (append-nil xs) ∙ is
none_more xs ys (x ∷ rest) is none = absurd (omega (arith, none))

whole : {A : Type 0} (xs ys : List A) → IsPrefix xs ys → length xs ≡ length ys → xs ≡ ys
whole {A} xs ys longer same =
    none_more xs ys longer.0 longer.1
    (omega (arith, length-append xs longer.0, ap (λ (l : List A). length l) longer.1, same))

-- what was tried in vain in a turn that saw no more was in vain at all that the pass has seen
in_vain_there : (opened : World) (p q : MeshPass) (tried : List Step) → Goes p q [] → p.seen ≡ q.seen
    → AreInVain opened p q tried → AreInVain opened q q tried
in_vain_there opened p q [] goes same each = each
in_vain_there opened p q (st ∷ tried) goes same (one, each) = (
  record {
    seen = one.seen;
    behind_first = subst (λ (xs : List Entry). IsPrefix xs one.seen) same one.behind_first;
    before_last = one.before_last;
    own =
        subst (λ n. entries_of_seat n one.seen ≡ p.own) (sym goes.same.number) one.own
        ∙ sym (goes.own ∙ append-nil p.own);
    was_idle = subst (λ n. WasIdle opened one.seen n st) (sym goes.same.number) one.was_idle;
  },
  in_vain_there opened p q tried goes same each,
)

-- equal by the test is equal
same_number : (m n : ℕ) → (m == n) ≡ true → n ≡ m
same_number m n is = grind (arith, nat_tests)

-- a test that fails doesn't hold
not_true : {P : Type 0} → false ≡ true → P
not_true {P} is = absurd {A = P} (let bad : ⊥ = cc in bad)

-- an idle turn behind which the next one is in vain
idle_role : {D : Type 0} (opened : World) (seen : Drive D → DriveView) (p q : MeshPass) (a b : Role D)
    → DidRole opened seen p q a b turns.Idle → is_role_in_vain b (length q.seen == length p.seen) ≡ true
    → IsQuiet opened q b
idle_role opened seen p q (roles.Client a) (roles.Client b) did is =
    subst (λ n. IsWaiting opened q n) (sym (ap (λ (j : ClientJob). j.actor) did.0.same)) did.1
idle_role opened seen p q (roles.Events a) (roles.Events b) did is =
    in_vain_there opened p q event_steps did.0.goes
    (whole p.seen q.seen did.0.goes.longer (same_number (length q.seen) (length p.seen) is)) did.1
idle_role opened seen p q (roles.Down a) (roles.Down b) did is = not_true is
idle_role opened seen p q (roles.Up a) (roles.Up b) did is = not_true is
idle_role opened seen p q (roles.Disk a) (roles.Disk b) did is = not_true is
idle_role opened seen p q a b did is = absurd did

idle_quiets : {D : Type 0} (opened : World) (seen : Drive D → DriveView) (a b : Job D) (n : ℕ)
    → DidTurn opened seen a b turns.Idle → n ≡ length a.pass.seen → is_in_vain b n ≡ true
    → IsQuiet opened b.pass b.role
unfolding DidTurn
idle_quiets opened seen a b n did is quiet =
    idle_role opened seen a.pass b.pass a.role b.role did
    (subst (λ (k : ℕ). is_role_in_vain b.role (length b.pass.seen == k) ≡ true) is quiet)

-- Jobs that differ from one in whether they are quiet

-- a turn tells nothing of that
pub same_turn : {D : Type 0} (opened : World) (seen : Drive D → DriveView) (a b c : Job D) (r : Turn)
    → DidTurn opened seen a b r → c.pass ≡ b.pass → c.role ≡ b.role → DidTurn opened seen a c r
unfolding DidTurn
same_turn {D} opened seen a b c r did pass role =
    subst (λ (z : MeshPass × Role D). DidRole opened seen a.pass z.0 a.role z.1 r) (λ i. (sym pass i, sym role i)) did

-- behind an idle turn
pub idle_job : {D : Type 0} (y : YardView _) (lanes : Lanes) (seen : Drive D → DriveView) (a b c : Job D)
    (n : ℕ) → IsPassOf y b.pass → IsRoleOf lanes b.pass b.role
    → DidTurn (opened_by y.start) seen a b turns.Idle → n ≡ length a.pass.seen → c.quiet ≡ is_in_vain b n
    → c.pass ≡ b.pass → c.role ≡ b.role → IsJobOf y lanes c
idle_job {D} y lanes seen a b c n of its did is quiet pass role =
    subst (λ (z : Job D). IsJobOf y lanes z) (λ i. record { pass = sym pass i; role = sym role i; quiet = c.quiet })
    (record {
      pass = of;
      role = its;
      quiet = λ yes. idle_quiets (opened_by y.start) seen a b n did is (sym quiet ∙ yes);
    })

-- behind another one
pub other_job : {D : Type 0} (y : YardView _) (lanes : Lanes) (b c : Job D) → IsPassOf y b.pass
    → IsRoleOf lanes b.pass b.role → c.quiet ≡ false → c.pass ≡ b.pass → c.role ≡ b.role → IsJobOf y lanes c
other_job {D} y lanes b c of its quiet pass role =
    subst (λ (z : Job D). IsJobOf y lanes z) (λ i. record { pass = sym pass i; role = sym role i; quiet = c.quiet })
    (record { pass = of; role = its; quiet = λ yes. not_true (sym quiet ∙ yes) })
