-- Each Up keeps the ledger.
use Rattle.std.specs.Prelude.{◌≡◌, ℕ, ◌==◌, Bool, true, false, List, [], ◌∷◌, ◌++◌, Option, Some, None, Ok, IsSomeAnd, Contains, IsTrue, unwrap_or, if◌then◌else◌}
use Rattle.std.specs.Option.{option_map_or}
use Rattle.std.proofs.Common.{refl, sym, ◌∙◌, ap, subst}
use Rattle.std.proofs.lemmas.Bool.{or_left}
use Rattle.std.proofs.lemmas.List.Elements.{All-contains}
use Rattle.geo_model.specs.declared.step.BioResult.TheVariants as results
use Rattle.geo_model.specs.declared.step.Outcome.{Outcome}
use Rattle.geo_model.specs.declared.step.Outcome.TheVariants as outcomes
use Rattle.geo_model.specs.declared.step.Owner.{Owner}
use Rattle.geo_model.specs.declared.step.Owner.TheVariants as owners
use Rattle.geo_model.specs.declared.step.Phase.TheVariants as phases
use Rattle.geo_model.specs.declared.step.Step.TheVariants as steps
use Rattle.geo_model.specs.World.{World, Bio, bio_at, is_done, is_up, is_waiting}
use Rattle.geo_model.specs.Bios.{complete_parent, is_complete, reply_of_result, up_to}
use Rattle.geo_model.specs.Step.{step}
use Rattle.geo_model.specs.Log.{Moment}
use Rattle.geo_model.specs.SoundBios.{IsFamilyInOrder}
use Rattle.geo_model.specs.Fitting.{Firm}
use Rattle.geo_laws_graph.proofs.Members.{find-Contains}
use Rattle.geo_laws_graph.proofs.Numbered.{number_found}
use Rattle.geo_laws_bios.specs.BioSteps.{turn}
use Rattle.geo_laws_bios.proofs.Ascending.{found_then}
use Rattle.geo_laws_requests.proofs.Named.{RisesIt, rises_it}
use Rattle.geo_laws_requests.specs.Covering.{SameMaps}
use Rattle.geo_laws_requests.specs.Ledger.{IsLogged, Ledger}
use Rattle.geo_laws_requests.proofs.Gathered.{IsBack}
use Rattle.geo_laws_requests.proofs.Gathers.{child_ends, last_child_ends, result_up}
use Rattle.geo_laws_requests.proofs.Quiet.{moment_of}
use Rattle.geo_laws_requests.proofs.Replies.{completed_now}
use Rattle.geo_laws_requests.proofs.Roots.{leaves_keep}

-- each Up keeps the ledger
pub ups_keep : (h : List Moment) (w v : World) (seat b : ℕ) (o : Outcome) → Ledger h w → Firm w → SameMaps w v
    → step w seat (steps.Up b) ≡ Ok (v, o) → Ledger (h ++ moment_of w seat (steps.Up b) o ∷ []) v
ups_keep h w v seat b o ledger firm maps made = by x.owner refl (it.made)
  where
    it : RisesIt w v b o
    it = rises_it w v seat b o made

    x : Bio
    x = it.bio

    same : x.number ≡ b
    same = number_found (λ (y : Bio). y.number) w.bios b x it.found

    found : bio_at w x.number ≡ Some x
    found = ap (λ n. bio_at w n) same ∙ it.found

    here : Contains w.bios x
    here = find-Contains (λ (y : Bio). y.number == x.number) w.bios x found

    logged : IsLogged h w x
    logged = All-contains (IsLogged h w) w.bios x ledger.live here

    back : IsBack h w x
    back = result_up h w x logged (or_left (is_up x.phase) (is_done x.phase) it.up)

    -- a root of a line
    line_by : (handle line : ℕ) → x.owner ≡ owners.Line handle line → (v, o) ≡ up_to w x (owners.Line handle line)
        → Ledger (h ++ moment_of w seat (steps.Up b) o ∷ []) v
    line_by handle line of is =
        let outcome : o ≡ outcomes.Replied line (reply_of_result back.result) =
        ap (λ (m : World × Outcome). m.1) is
        ∙ ap (λ z. outcomes.Replied line (reply_of_result (unwrap_or z results.Done))) back.is in
        subst (λ k. Ledger (h ++ moment_of w seat (steps.Up b) k ∷ []) v) (sym outcome)
        (leaves_keep h w v seat b (outcomes.Replied line (reply_of_result back.result)) ledger firm.bios.numbers
        x same
        (record {
          found = found;
          root = rw of refl;
          bios = ap (λ (m : World × Outcome). m.0.bios) is;
          next = ap (λ (m : World × Outcome). m.0.next_bio) is;
          accepts = λ l n e. (let bad : ⊥ = cc in bad);
          maps = maps;
        })
        (λ a it way. completed_now h w v seat b line back.result ledger x same handle of logged back.has a it way))

    -- the root of a taste
    taste_by : x.owner ≡ owners.Taste → (v, o) ≡ up_to w x owners.Taste
        → Ledger (h ++ moment_of w seat (steps.Up b) o ∷ []) v
    taste_by of is =
        let outcome : o ≡ outcomes.TasteBack = ap (λ (m : World × Outcome). m.1) is in
        subst (λ k. Ledger (h ++ moment_of w seat (steps.Up b) k ∷ []) v) (sym outcome)
        (leaves_keep h w v seat b outcomes.TasteBack ledger firm.bios.numbers x same
        (record {
          found = found;
          root = rw of refl;
          bios = ap (λ (m : World × Outcome). m.0.bios) is;
          next = ap (λ (m : World × Outcome). m.0.next_bio) is;
          accepts = λ l n e. (let bad : ⊥ = cc in bad);
          maps = maps;
        })
        (λ a it way. (let other : owners.Taste ≡ owners.Line way.handle a.line = sym of ∙ way.owner in
        let bad : ⊥ = cc in absurd bad)))

    -- a child
    child_by : (parent index : ℕ) → x.owner ≡ owners.Child parent index
        → (v, o) ≡ up_to w x (owners.Child parent index) → Ledger (h ++ moment_of w seat (steps.Up b) o ∷ []) v
    child_by parent index of is = at (is_complete (turn w x phases.Done (λ r. r)) parent) refl
      where
        done : World
        done = turn w x phases.Done (λ r. r)

        gathers : (c : Bool) → is_complete done parent ≡ c → o ≡ outcomes.Gathered parent c
        gathers c e = ap (λ (m : World × Outcome). m.1) is ∙ ap (λ z. outcomes.Gathered parent z) e

        family : IsFamilyInOrder w.topology w.bios x
        family = All-contains (IsFamilyInOrder w.topology w.bios) w.bios x firm.bios.families here

        world_then : (c : Bool) → is_complete done parent ≡ c
            → v ≡ (if c then option_map_or (λ y. complete_parent done y) (bio_at done parent) done else done)
        world_then c e =
            ap (λ (m : World × Outcome). m.0) is
            ∙ ap (λ z. if z then option_map_or (λ y. complete_parent done y) (bio_at done parent) done else done) e

        last_by : (y : Bio) → bio_at w parent ≡ Some y → IsTrue (is_waiting y.phase) → is_complete done parent ≡ true
            → Ledger (h ++ moment_of w seat (steps.Up b) o ∷ []) v
        last_by y at waits e =
            let its : y.number ≡ parent = number_found (λ (z : Bio). z.number) w.bios parent y at in
            let of_it : x.owner ≡ owners.Child y.number index = of ∙ ap (λ n. owners.Child n index) (sym its) in
            let there : bio_at w y.number ≡ Some y = ap (λ n. bio_at w n) its ∙ at in
            let complete : is_complete done y.number ≡ true = ap (λ n. is_complete done n) its ∙ e in
            let found_now : bio_at done parent ≡ Some y =
            ap (λ n. bio_at done n) (sym its) ∙ found_then w firm x y index found it.up of_it there waits complete in
            let now : v ≡ complete_parent done y =
            world_then true e ∙ ap (λ z. option_map_or (λ q. complete_parent done q) z done) found_now in
            last_child_ends h w v seat b o ledger firm x same found it.up parent true (gathers true e) maps y index
            of_it there waits complete (ap (λ (z : World). z.bios) now) (ap (λ (z : World). z.next_bio) now)

        parent_by : (z : Option Bio) → bio_at w parent ≡ z → IsSomeAnd z (λ y. IsTrue (is_waiting y.phase))
            → is_complete done parent ≡ true → Ledger (h ++ moment_of w seat (steps.Up b) o ∷ []) v
        parent_by None at waits e = absurd waits
        parent_by (Some y) at waits e = last_by y at waits e

        at : (c : Bool) → is_complete done parent ≡ c → Ledger (h ++ moment_of w seat (steps.Up b) o ∷ []) v
        at true e = parent_by (bio_at w parent) refl (rw of at family.parent) e
        at false e =
            child_ends h w v seat b o ledger firm x same found it.up parent false (gathers false e) maps
            (ap (λ (z : World). z.bios) (world_then false e)) (ap (λ (z : World). z.next_bio) (world_then false e))

    by : (owner : Owner) → x.owner ≡ owner → (v, o) ≡ up_to w x x.owner
        → Ledger (h ++ moment_of w seat (steps.Up b) o ∷ []) v
    by (owners.Line handle line) of is = line_by handle line of (is ∙ ap (λ k. up_to w x k) of)
    by owners.Taste of is = taste_by of (is ∙ ap (λ k. up_to w x k) of)
    by (owners.Child parent index) of is = child_by parent index of (is ∙ ap (λ k. up_to w x k) of)
