-- An answer that a seat can deliver, it can deliver after a step of another seat.
use Rattle.std.proofs.Common.{◌≡◌, ℕ, ◌==◌, Bool, true, false, Option, Some, None, is_ok, IsTrue, refl, sym, subst, eq-eqb, ◌∙◌, ap, if◌then◌else◌}
use Rattle.geo_model.specs.declared.step.DeviceResult.{DeviceResult}
use Rattle.geo_model.specs.declared.step.Found.{Found}
use Rattle.geo_model.specs.declared.step.Found.TheVariants as found
use Rattle.geo_model.specs.declared.step.Phase.TheVariants as phases
use Rattle.geo_model.specs.declared.step.Step.TheVariants as steps
use Rattle.geo_model.specs.Bios.{deliver, fits_bio, is_fitting, sector_of_bio}
use Rattle.geo_model.specs.Step.{deliver_found, deliver_of, is_enabled, step, unless_found}
use Rattle.geo_model.specs.World.{World, Bio, bio_at}
use Rattle.geo_laws_graph.proofs.Members.{find-Contains}
use Rattle.geo_laws_requests.proofs.Named.{own_phase}
use Rattle.geo_laws_disks.specs.TakenLaws.{DeliversStayEnabled}
use Rattle.geo_laws_disks.proofs.TakenStands.{stands_still, sector_stays}

-- a Deliver that fits is enabled for the seat that is at the bio
pub can_be_delivered : (w : World) (seat b : ℕ) (x : Bio) (got : DeviceResult) → bio_at w b ≡ Some x
    → x.phase ≡ phases.Busy seat → IsTrue (is_fitting w x got) → IsTrue (is_enabled w seat (steps.Deliver b got))
unfolding step
can_be_delivered w seat b x got at busy fits =
    ap (λ z. is_ok (deliver_of w seat got z)) at
    ∙ ap (λ p. is_ok (unless_found (deliver_found w seat x got p) (deliver w x got))) busy
    ∙ ap (λ c. is_ok (unless_found
    (if c then (if is_fitting w x got then None else Some found.Unfit) else Some (found.OtherSeat seat))
    (deliver w x got))) (eq-eqb seat seat refl)
    ∙ ap (λ c. is_ok (unless_found (if c then None else Some found.Unfit) (deliver w x got))) fits

-- a bio that its seat can deliver with an answer
record CanAnswer (w : World) (seat b : ℕ) (got : DeviceResult) : Type 0 where
  bio : Bio
  found : bio_at w b ≡ Some bio
  own : bio.phase ≡ phases.Busy seat
  fits : is_fitting w bio got ≡ true

-- where nothing is against a Deliver the answer fits
own_fits : (w : World) (seat : ℕ) (y : Bio) (got : DeviceResult)
    → deliver_found w seat y got (phases.Busy seat) ≡ None → is_fitting w y got ≡ true
own_fits w seat y got none = by (is_fitting w y got) refl
  where
    by : (c : Bool) → is_fitting w y got ≡ c → c ≡ true
    by true e = refl
    by false e =
        absurd (let bad : Some found.Unfit ≡ None = rw (eq-eqb seat seat refl, e) at none in
        (let wrong : ⊥ = cc in wrong))

-- an enabled Deliver names such a bio
can_answer : (w : World) (seat b : ℕ) (got : DeviceResult) → IsTrue (is_enabled w seat (steps.Deliver b got))
    → CanAnswer w seat b got
unfolding step
can_answer w seat b got enabled = by (bio_at w b) refl enabled
  where
    at : (y : Bio) → bio_at w b ≡ Some y → (f : Option Found) → deliver_found w seat y got y.phase ≡ f
        → is_ok (unless_found f (deliver w y got)) ≡ true → CanAnswer w seat b got
    at y is None none e =
        let own : y.phase ≡ phases.Busy seat = own_phase w seat y got y.phase none in
        record {
          bio = y;
          found = is;
          own = own;
          fits = own_fits w seat y got (subst (λ p. deliver_found w seat y got p ≡ None) own none);
        }
    at y is (Some f) none e = absurd (let bad : ⊥ = cc in bad)

    by : (z : Option Bio) → bio_at w b ≡ z → is_ok (deliver_of w seat got z) ≡ true → CanAnswer w seat b got
    by None is e = absurd (let bad : ⊥ = cc in bad)
    by (Some y) is e = at y is (deliver_found w seat y got y.phase) refl e

-- each step of another seat
pub delivers_stay_enabled : DeliversStayEnabled
delivers_stay_enabled w v seat other b s o got firm apart made enabled =
    let it : CanAnswer w seat b got = can_answer w seat b got enabled in
    let sector : sector_of_bio v it.bio ≡ sector_of_bio w it.bio =
    sector_stays w v other s o it.bio firm (find-Contains (λ (y : Bio). y.number == b) w.bios it.bio it.found) made in
    can_be_delivered v seat b it.bio got
    (stands_still w seat other b it.bio apart it.found it.own v s o firm made) it.own
    (subst (λ z. IsTrue (fits_bio z it.bio got)) (sym sector) it.fits)
