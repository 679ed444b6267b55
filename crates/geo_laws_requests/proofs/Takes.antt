-- A Take and a Deliver keep the ledger.
use Rattle.std.specs.Prelude.{◌≡◌, ℕ, ◌==◌, Bool, true, false, List, [], ◌∷◌, ◌++◌, map, Option, Some, None, Ok, IsSome, IsSomeAnd, All, Contains, option_map}
use Rattle.std.proofs.Common.{refl, sym, ◌∙◌, ap, append-nil, subst, arith}
use Rattle.std.proofs.lemmas.Bool.{eq-eqb, eqb-true, ne_eqb}
use Rattle.std.proofs.lemmas.List.Elements.{All-append, All-contains, All-from_recursion}
use Rattle.geo_model.proofs.BioLemmas.{phase_sent}
use Rattle.geo_base.specs.Sectors.{IsSectorSize}
use Rattle.geo_model.specs.declared.step.DeviceResult.{DeviceResult}
use Rattle.geo_model.specs.declared.step.Outcome.{Outcome}
use Rattle.geo_model.specs.declared.step.Outcome.TheVariants as outcomes
use Rattle.geo_model.specs.declared.step.Phase.TheVariants as phases
use Rattle.geo_model.specs.declared.step.Request.{Request}
use Rattle.geo_model.specs.declared.step.Step.TheVariants as steps
use Rattle.geo_model.specs.World.{World, Bio, bio_at, change_number, granted_in}
use Rattle.geo_model.specs.SoundBios.{IsBioInOrder}
use Rattle.geo_model.specs.Bios.{take_bio, deliver, request_of_bio, result_of_device, up_with}
use Rattle.geo_model.specs.Step.{step}
use Rattle.geo_model.specs.Log.{Moment}
use Rattle.geo_model.specs.Results.{Leaf, device_answer_of, entries_of, is_deliver_of, leaves, request_in, request_of, start_moment}
use Rattle.geo_model.specs.Graph.{AreNumbers}
use Rattle.geo_model.specs.History.{is_reply_to}
use Rattle.geo_laws_graph.proofs.Members.{find-Contains}
use Rattle.geo_laws_graph.proofs.Numbered.{number_found}
use Rattle.geo_laws_requests.specs.Histories.{AnsweredAreTaken}
use Rattle.geo_laws_requests.proofs.Looks.{request_stays, start_stays}
use Rattle.geo_laws_steps.specs.WayLaws.{SameMap}
use Rattle.geo_laws_requests.specs.Covering.{CoversThere, SameMaps}
use Rattle.geo_laws_requests.specs.Ledger.{HasResult, Ledger, IsLogged, SoFar, WasAsked}
use Rattle.geo_laws_requests.proofs.Covered.{covers_request, covers_stay}
use Rattle.geo_laws_requests.proofs.Logged.{never_so, queued_stays}
use Rattle.geo_laws_requests.proofs.Quiet.{moment_of, taken_quietly, answer_before, asked_before}
use Rattle.geo_laws_requests.proofs.Turning.{IsNewChild, turned_keeps}
use Rattle.geo_laws_requests.proofs.Answered.{asked_now, answered_now, leaves_at, result_at}
use Rattle.geo_laws_requests.proofs.AtDisk.{take_covers}
use Rattle.geo_laws_requests.proofs.Named.{TakesIt, takes_it, DeliversIt, delivers_it}
use Rattle.geo_laws_requests.proofs.Starts.{keeps_up, keeps_phase, in_phase}

-- with a step that isn't the Up of a bio no reply to it is told
unreplied : (h : List Moment) (m : Moment) (n : ℕ) → is_reply_to n m.entry ≡ false
    → All (λ x. is_reply_to n x.entry ≡ false) h → All (λ x. is_reply_to n x.entry ≡ false) (h ++ m ∷ [])
unreplied h m n not_it none =
    All-append (λ x. is_reply_to n x.entry ≡ false) h (m ∷ []) none
    (All-from_recursion (λ x. is_reply_to n x.entry ≡ false) (m ∷ []) (not_it, tt))

-- each Take keeps the ledger
pub takes_keep : (h : List Moment) (w v : World) (seat disk b : ℕ) (o : Outcome) → Ledger h w
    → AreNumbers (map (λ (y : Bio). y.number) w.bios) w.next_bio → All (IsBioInOrder (granted_in w) w.topology) w.bios
    → All (λ p. IsSectorSize p.sector) w.topology.providers → SameMaps w v
    → step w seat (steps.Take disk b) ≡ Ok (v, o) → Ledger (h ++ moment_of w seat (steps.Take disk b) o ∷ []) v
unfolding take_bio
takes_keep h w v seat disk b o ledger are order sizes maps made =
    turned_keeps h w v seat (steps.Take disk b) o ledger are x (in_phase (phases.Busy seat)) []
    (record {
      keeps = keeps_phase (phases.Busy seat);
      found = found;
      bios = ap (λ (m : World × Outcome). m.0.bios) it.made
          ∙ sym (append-nil (change_number x.number (in_phase (phases.Busy seat)) w.bios));
      next = omega (arith, ap (λ (m : World × Outcome). m.0.next_bio) it.made);
      children = All-from_recursion (IsNewChild w v x) [] tt;
      others = λ n apart. (rw (ne_eqb b n (λ e. apart (sym e ∙ sym same))) refl);
      accepts = λ line n is.
          let wrong : outcomes.Asked (request_of_bio w disk x) ≡ outcomes.Accepted line n = sym asks ∙ is in
          (let bad : ⊥ = cc in bad);
      maps = maps;
    }) (taken_quietly h this (λ n. refl) ledger.taken) logged_busy
  where
    this : Moment
    this = moment_of w seat (steps.Take disk b) o

    it : TakesIt w v seat disk b o
    it = takes_it w v seat disk b o made

    x : Bio
    x = it.bio

    same : x.number ≡ b
    same = number_found (λ (y : Bio). y.number) w.bios b x it.found

    found : bio_at w x.number ≡ Some x
    found = ap (λ n. bio_at w n) same ∙ it.found

    here : Contains w.bios x
    here = find-Contains (λ (y : Bio). y.number == x.number) w.bios x found

    its_leaf : DeviceResult → List Leaf
    its_leaf got = record { bio = x.number; request = request_of_bio w disk x; got = got } ∷ []

    asks : o ≡ outcomes.Asked (request_of_bio w disk x)
    asks = ap (λ (m : World × Outcome). m.1) it.made

    logged_busy : IsLogged h w x → IsLogged (h ++ this ∷ []) v (in_phase (phases.Busy seat) x)
    logged_busy logged =
        let so : SoFar h w x phases.Sent = subst (SoFar h w x) (phase_sent x.phase it.can.sent) logged.so_far in
        record {
          unreplied = unreplied h this x.number refl logged.unreplied;
          so_far = record {
            queued = queued_stays h this x.number so.0;
            undelivered = never_so (is_deliver_of x.number) h this so.2 refl;
            asked =
                subst (λ z. IsSomeAnd z (λ q. (got : DeviceResult) → CoversThere v (in_phase (phases.Busy seat) x)
                (record { bio = x.number; request = q; got = got } ∷ [])))
                (sym (asked_now h this x.number so.1 (rw same (eq-eqb b b refl)) ∙ ap request_in asks))
                (λ got. covers_request v x (in_phase (phases.Busy seat) x) (its_leaf got)
                ((keeps_phase (phases.Busy seat)).request x)
                (covers_stay w v x (its_leaf got)
                (All-contains (λ (y : Bio). SameMap w.topology v.topology y.target) w.bios x maps here)
                (take_covers w x disk got
                (All-contains (IsBioInOrder (granted_in w) w.topology) w.bios x order here)
                sizes it.can.disk_is)));
          };
        }

-- each Deliver keeps the ledger
pub delivers_keep : (h : List Moment) (w v : World) (seat b : ℕ) (got : DeviceResult) (o : Outcome) → Ledger h w
    → AreNumbers (map (λ (y : Bio). y.number) w.bios) w.next_bio → SameMaps w v
    → step w seat (steps.Deliver b got) ≡ Ok (v, o) → Ledger (h ++ moment_of w seat (steps.Deliver b got) o ∷ []) v
unfolding deliver
delivers_keep h w v seat b got o ledger are maps made =
    turned_keeps h w v seat (steps.Deliver b got) o ledger are x (up_with (result_of_device got)) []
    (record {
      keeps = keeps_up (result_of_device got);
      found = found;
      bios = ap (λ (m : World × Outcome). m.0.bios) it.made
          ∙ sym (append-nil (change_number x.number (up_with (result_of_device got)) w.bios));
      next = omega (arith, ap (λ (m : World × Outcome). m.0.next_bio) it.made);
      children = All-from_recursion (IsNewChild w v x) [] tt;
      others = λ n apart. (rw (ne_eqb b n (λ e. apart (sym e ∙ sym same))) refl);
      accepts = λ line n is.
          let wrong : outcomes.Delivered ≡ outcomes.Accepted line n =
          sym (ap (λ (m : World × Outcome). m.1) it.made) ∙ is in
          (let bad : ⊥ = cc in bad);
      maps = maps;
    }) taken logged_up
  where
    this : Moment
    this = moment_of w seat (steps.Deliver b got) o

    it : DeliversIt w v seat b got o
    it = delivers_it w v seat b got o made

    x : Bio
    x = it.bio

    same : x.number ≡ b
    same = number_found (λ (y : Bio). y.number) w.bios b x it.found

    found : bio_at w x.number ≡ Some x
    found = ap (λ n. bio_at w n) same ∙ it.found

    here : Contains w.bios x
    here = find-Contains (λ (y : Bio). y.number == x.number) w.bios x found

    was : WasAsked h w x
    was = subst (SoFar h w x) it.own (All-contains (IsLogged h w) w.bios x ledger.live here).so_far

    answer : device_answer_of (entries_of (h ++ this ∷ [])) x.number ≡ Some got
    answer = answered_now h this x.number was.undelivered (rw same (eq-eqb b b refl))

    -- the bio that is answered was taken, and the others as before
    taken : AnsweredAreTaken (h ++ this ∷ [])
    taken n some = by (b == n) refl
      where
        asked : IsSomeAnd (request_of (entries_of h) x.number) (λ q. (a : DeviceResult)
            → CoversThere w x (record { bio = x.number; request = q; got = a } ∷ []))
            → IsSome (request_of (entries_of h) x.number)
        asked all = at (request_of (entries_of h) x.number) all
          where
            at : (z : Option Request) → IsSomeAnd z (λ q. (a : DeviceResult)
                → CoversThere w x (record { bio = x.number; request = q; got = a } ∷ [])) → IsSome z
            at None all = absurd all
            at (Some q) all = refl

        by : (c : Bool) → (b == n) ≡ c → IsSome (request_of (entries_of (h ++ this ∷ [])) n)
        by true e =
            asked_before h this n
            (subst (λ k. IsSome (request_of (entries_of h) k)) (same ∙ eqb-true b n e) (asked was.asked))
        by false e =
            asked_before h this n (ledger.taken n (subst (λ z. IsSome z) (answer_before h this n e) some))

    logged_up : IsLogged h w x → IsLogged (h ++ this ∷ []) v (up_with (result_of_device got) x)
    logged_up logged = record {
      unreplied = unreplied h this x.number refl logged.unreplied;
      so_far = by (start_moment h x.number) refl was.queued;
    }
      where
        covered : (s : Moment) → start_moment h x.number ≡ Some s → (disk : ℕ) → s.entry.outcome ≡ outcomes.Queued disk
            → (z : Option Request) → request_of (entries_of h) x.number ≡ z
            → IsSomeAnd z (λ q. (a : DeviceResult)
            → CoversThere w x (record { bio = x.number; request = q; got = a } ∷ []))
            → CoversThere v x (leaves (h ++ this ∷ []) x.number)
        covered s is disk sent None of all = absurd all
        covered s is disk sent (Some q) of all =
            rw (leaves_at h this x.number s (start_stays h (this ∷ []) x.number s is), sent)
            (rw (request_stays h (this ∷ []) x.number q of, answer)
            (covers_stay w v x (record { bio = x.number; request = q; got = got } ∷ [])
            (All-contains (λ (y : Bio). SameMap w.topology v.topology y.target) w.bios x maps here) (all got)))

        by : (z : Option Moment) → start_moment h x.number ≡ z
            → IsSomeAnd z (λ m. (disk : ℕ) × (m.entry.outcome ≡ outcomes.Queued disk))
            → HasResult (h ++ this ∷ []) v (up_with (result_of_device got) x) (result_of_device got)
        by None is some = absurd some
        by (Some s) is some = record {
          is = result_at h this x.number s (start_stays h (this ∷ []) x.number s is)
              ∙ (rw some.1 (ap (λ z. option_map result_of_device z) answer));
          covers = λ success.
              covers_request v x (up_with (result_of_device got) x) (leaves (h ++ this ∷ []) x.number)
              ((keeps_up (result_of_device got)).request x)
              (covered s is some.0 some.1 (request_of (entries_of h) x.number) refl was.asked);
        }
