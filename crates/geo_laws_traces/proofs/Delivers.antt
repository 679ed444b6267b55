-- Each Deliver of bytes in a legal log has some, and no more than a request can ask for.
use Rattle.std.proofs.Common.{◌≡◌, ℕ, ◌≤◌, false, List, [], ◌∷◌, ◌==◌, length, Option, Some, None, IsOkAnd, Contains, refl, arith}
use Rattle.std.specs.List.{AllByRecursion}
use Rattle.std.proofs.lemmas.List.Elements.{All-from_recursion, All-contains}
use Rattle.geo_base.specs.declared.limits.TheConstants.{MAX_REQUEST_BYTES}
use Rattle.geo_model.specs.declared.step.DeviceResult.TheVariants as devices
use Rattle.geo_model.specs.declared.step.Entry.{Entry}
use Rattle.geo_model.specs.declared.step.Found.{Found}
use Rattle.geo_model.specs.declared.step.Outcome.{Outcome}
use Rattle.geo_model.specs.declared.step.Step.{Step}
use Rattle.geo_model.specs.declared.step.Step.TheVariants as steps
use Rattle.geo_model.specs.Words.{is_flush}
use Rattle.geo_model.specs.Topology.{provider_at}
use Rattle.geo_model.specs.World.{World, Bio, bio_at, granted_in}
use Rattle.geo_model.specs.Bios.{deliver, sector_of_bio}
use Rattle.geo_model.specs.SoundBios.{IsBioInOrder, IsRangeInside}
use Rattle.geo_model.specs.Step.{unless_found, deliver_found, deliver_of, step}
use Rattle.geo_model.specs.Log.{Legal, after_entry}
use Rattle.geo_model.specs.Fitting.{Firm}
use Rattle.geo_model.proofs.BioLemmas.{read_moves}
use Rattle.geo_laws_graph.proofs.Members.{find-Contains}
use Rattle.geo_laws_life.proofs.Found.{found-with}
use Rattle.geo_laws_bios.proofs.Phases.{can_deliver, fitting_result}
use Rattle.geo_laws_steps.proofs.Stepped.{steps_stay_firm}
use Rattle.geo_laws_steps.proofs.Logs.{opened_firm}
use Rattle.geo_laws_traces.specs.TraceLaws.{FewBytes, DeliversAreShort}

-- bytes of which there are some, and few
record AreFew (bytes : List ℕ) : Type 0 where
  some : 1 ≤ length bytes
  few : length bytes ≤ MAX_REQUEST_BYTES

-- bytes that fit a bio are as many as it asks for
fitting_few : (w : World) (x : Bio) (seat : ℕ) (bytes : List ℕ) → Firm w → Contains w.bios x
    → deliver_found w seat x (devices.Bytes bytes) x.phase ≡ None → AreFew bytes
fitting_few w x seat bytes firm here none =
    let order : IsBioInOrder (granted_in w) w.topology x =
    All-contains (IsBioInOrder (granted_in w) w.topology) w.bios x firm.bios.order here in
    let fits = fitting_result (sector_of_bio w x) x (devices.Bytes bytes)
    (can_deliver w seat x (devices.Bytes bytes) x.phase none).1 in
    let p = found-with (provider_at w.topology x.target)
    (λ q. is_flush x.cmd ≡ false → IsRangeInside x q) order.target in
    let range : IsRangeInside x p.item = p.fact (read_moves x.cmd fits.0) in
    let long : length bytes ≡ x.len = fits.1 in
    record { some = omega (arith, range.some_byte, long); few = omega (arith, range.not_long, long) }

-- a Deliver of bytes that is made, by what is against it
few_by : (w : World) (x : Bio) (seat : ℕ) (bytes : List ℕ) (outcome : Outcome) → Firm w → Contains w.bios x
    → (o : Option Found) → deliver_found w seat x (devices.Bytes bytes) x.phase ≡ o
    → IsOkAnd (unless_found o (deliver w x (devices.Bytes bytes))) (λ made. made.1 ≡ outcome) → AreFew bytes
few_by w x seat bytes outcome firm here (Some found) against is = absurd is
few_by w x seat bytes outcome firm here None against is = fitting_few w x seat bytes firm here against

-- by the bio
few_at : (w : World) (b seat : ℕ) (bytes : List ℕ) (outcome : Outcome) → Firm w → (o : Option Bio) → bio_at w b ≡ o
    → IsOkAnd (deliver_of w seat (devices.Bytes bytes) o) (λ made. made.1 ≡ outcome) → AreFew bytes
few_at w b seat bytes outcome firm None found is = absurd is
few_at w b seat bytes outcome firm (Some x) found is =
    few_by w x seat bytes outcome firm (find-Contains (λ (y : Bio). y.number == b) w.bios x found)
    (deliver_found w seat x (devices.Bytes bytes) x.phase) refl is

-- an entry of a firm mesh
entry_few : (w : World) (seat : ℕ) (s : Step) (outcome : Outcome) → Firm w
    → IsOkAnd (step w seat s) (λ made. made.1 ≡ outcome) → FewBytes s
unfolding step
entry_few w seat (steps.Deliver b (devices.Bytes bytes)) outcome firm is =
    let few : AreFew bytes = few_at w b seat bytes outcome firm (bio_at w b) refl is in (few.some, few.few)
entry_few w seat s outcome firm is = tt

-- along a log
few_along : (w : World) (log : List Entry) → Firm w → Legal w log → AllByRecursion (λ (e : Entry). FewBytes e.step) log
few_along w [] firm legal = tt
few_along w (e ∷ log) firm legal = (
  entry_few w e.seat e.step e.outcome firm legal.0,
  few_along (after_entry w e) log (steps_stay_firm w e.seat e.step firm) legal.1,
)

pub delivers_are_short : DeliversAreShort
delivers_are_short plan facts is fit log legal =
    All-from_recursion (λ (e : Entry). FewBytes e.step) log
    (few_along _ log (opened_firm plan facts is fit) legal)
