-- The Up of a root keeps the ledger: an accepted bio that goes is complete by it.
use Rattle.std.specs.Prelude.{◌≡◌, ◌≢◌, ℕ, ◌<◌, ◌≤◌, ◌==◌, Bool, true, false, not, List, [], ◌∷◌, ◌++◌, map, filter, find, Some, None, MatchOption, All, Contains}
use Rattle.std.specs.List.{AllByRecursion}
use Rattle.std.proofs.Common.{refl, sym, ◌∙◌, ap, subst, arith}
use Rattle.std.proofs.lemmas.Bool.{both_ways, eq-eqb, eqb-true, ne_eqb}
use Rattle.std.proofs.lemmas.List.Elements.{All-append, All-contains, All-from_recursion, recursion_from_All}
use Rattle.geo_model.specs.declared.step.Outcome.{Outcome}
use Rattle.geo_model.specs.declared.step.Step.TheVariants as steps
use Rattle.geo_model.specs.World.{World, Bio, bio_at, children_of, is_child_of, is_root}
use Rattle.geo_model.specs.Log.{Moment, after_entry}
use Rattle.geo_model.specs.Graph.{AreNumbers}
use Rattle.geo_model.specs.History.{Acceptance}
use Rattle.geo_model.proofs.DemandLemmas.{all_weaker}
use Rattle.geo_laws_graph.proofs.Living.{all_members}
use Rattle.geo_laws_graph.proofs.Members.{Contains-map, find-Contains}
use Rattle.geo_laws_graph.proofs.Numbered.{at-gone, at-kept, unique}
use Rattle.geo_laws_graph.proofs.Spared.{IsSpared, filter-spared}
use Rattle.geo_laws_bios.proofs.Leaving.{root_no_child}
use Rattle.geo_laws_requests.specs.Histories.{names_bio}
use Rattle.geo_laws_requests.specs.Arrivals.{AcceptsNone}
use Rattle.geo_laws_steps.specs.WayLaws.{SameMap}
use Rattle.geo_laws_requests.specs.Covering.{SameMaps}
use Rattle.geo_laws_requests.specs.Ledger.{IsAccounted, IsCompleted, IsLogged, IsOnItsWay, IsSameRequest, Ledger, AcceptsAreAccounted}
use Rattle.geo_laws_requests.proofs.Logged.{logged_stays, never_so}
use Rattle.geo_laws_requests.proofs.Quiet.{accounted_quietly, moment_of, taken_quietly}

-- a step that takes a root away: it is the Up of that bio, and accepts nothing
pub record Leaves (w v : World) (o : Outcome) (x : Bio) : Type 0 where
  pub found : bio_at w x.number ≡ Some x
  pub root : is_root x.owner ≡ true
  pub bios : v.bios ≡ filter (λ (y : Bio). not (y.number == x.number)) w.bios
  pub next : v.next_bio ≡ w.next_bio
  pub accepts : AcceptsNone o
  pub maps : SameMaps w v

-- a map that is the same is the same the other way round
pub same_map_back : (w v : World) (p : ℕ) → SameMap w.topology v.topology p → SameMap v.topology w.topology p
same_map_back w v p same = record {
  sizes = sym same.sizes;
  sectors = λ o. sym (same.sectors o);
  disks = sym same.disks;
}

-- a request that is the same is the same the other way round
pub same_request_back : (x y : Bio) → IsSameRequest x y → IsSameRequest y x
same_request_back x y same = record {
  cmd = sym same.cmd;
  offset = sym same.offset;
  len = sym same.len;
  bytes = sym same.bytes;
  target = sym same.target;
}

-- an Up names its bio alone
pub up_names_it : (b n : ℕ) → n ≢ b → names_bio n (steps.Up b) ≡ false
up_names_it b n apart = ne_eqb b n (λ same. apart (sym same))

module _ (h : List Moment) (w v : World) (seat b : ℕ) (o : Outcome) (ledger : Ledger h w)
    (are : AreNumbers (map (λ (y : Bio). y.number) w.bios) w.next_bio) (x : Bio) (same : x.number ≡ b)
    (gone : Leaves w v o x) where
  -- the moment of the step
  abbrev this : Moment
  this = moment_of w seat (steps.Up b) o

  -- whether a bio is the one
  abbrev is_it : Bio → Bool
  is_it y = y.number == x.number

  -- a number that isn't its is not named
  others : (n : ℕ) → n ≢ x.number → names_bio n (steps.Up b) ≡ false
  others n apart = up_names_it b n (λ e. apart (e ∙ sym same))

  -- so is a number that none has so far
  to_come : (n : ℕ) → w.next_bio ≤ n → n ≢ x.number
  to_come n above it =
      let below : x.number < w.next_bio =
      All-contains (λ k. k < w.next_bio) (map (λ (y : Bio). y.number) w.bios) x.number are.1
      (Contains-map (λ (y : Bio). y.number) w.bios x (find-Contains is_it w.bios x gone.found)) in
      absurd (omega (arith, it, above, below))

  -- the children of each bio are the same
  children_kept : (n : ℕ) → children_of v n ≡ children_of w n
  children_kept n =
      ap (λ ys. filter (λ (y : Bio). is_child_of y.owner n) ys) gone.bios
      ∙ filter-spared is_it (λ (y : Bio). is_child_of y.owner n) w.bios
      (all_weaker (λ (y : Bio). is_it y ≡ true → y ≡ x) (IsSpared is_it (λ (y : Bio). is_child_of y.owner n))
      (λ y only e. ap (λ (z : Bio). is_child_of z.owner n) (only e) ∙ root_no_child x.owner n gone.root) w.bios
      (unique (λ (y : Bio). y.number) w.next_bio x.number w.bios x are gone.found))

  -- each bio that stays is logged
  live_after : All (IsLogged (h ++ this ∷ []) v) v.bios
  live_after =
      subst (λ ys. All (IsLogged (h ++ this ∷ []) v) ys) (sym gone.bios)
      (All-from_recursion (IsLogged (h ++ this ∷ []) v) (filter (λ (y : Bio). not (is_it y)) w.bios)
      (kept w.bios (recursion_from_All (λ y. Contains w.bios y × IsLogged h w y) w.bios
      (all_members (IsLogged h w) (λ y. Contains w.bios y × IsLogged h w y) w.bios (λ y here is. (here, is))
      ledger.live))))
    where
      logged : (y : Bio) → is_it y ≡ false → Contains w.bios y × IsLogged h w y → IsLogged (h ++ this ∷ []) v y
      logged y other both =
          logged_stays h this w v y
          (record {
            unnamed_by = others y.number
                (λ e. both_ways (is_it y) other (rw e (eq-eqb x.number x.number refl)));
            children = ap (λ ys. map (λ (z : Bio). z.number) ys) (children_kept y.number);
            its_map = All-contains (λ (z : Bio). SameMap w.topology v.topology z.target) w.bios y gone.maps both.0;
            taken = ledger.taken;
          }) both.1

      kept : (ys : List Bio) → AllByRecursion (λ (y : Bio). Contains w.bios y × IsLogged h w y) ys
          → AllByRecursion (IsLogged (h ++ this ∷ []) v) (filter (λ (y : Bio). not (is_it y)) ys)
      kept [] all = tt
      kept (y ∷ ys) all = by (is_it y) refl (kept ys all.1)
        where
          by : (c : Bool) → is_it y ≡ c
              → AllByRecursion (IsLogged (h ++ this ∷ []) v) (filter (λ (z : Bio). not (is_it z)) ys)
              → AllByRecursion (IsLogged (h ++ this ∷ []) v) (filter (λ (z : Bio). not (is_it z)) (y ∷ ys))
          by true e rest = rw e rest
          by false e rest = rw e (logged y e all.0, rest)

  -- another acceptance is accounted for as it was
  accounted_other : (a : Acceptance) → a.bio ≢ x.number → IsAccounted h w a → IsAccounted (h ++ this ∷ []) v a
  accounted_other a apart was =
      accounted_quietly h this w v a ledger.taken gone.maps (others a.bio apart) (omega (arith, gone.next))
      (ap (λ ys. find (λ (z : Bio). z.number == a.bio) ys) gone.bios
      ∙ at-kept (λ (z : Bio). z.number) x.number a.bio apart w.bios) was

  -- the ledger goes on, where the acceptance of the bio is complete
  pub leaves_keep : ((a : Acceptance) → a.bio ≡ x.number → IsOnItsWay w a x → IsCompleted (h ++ this ∷ []) a)
      → Ledger (h ++ this ∷ []) v
  leaves_keep complete = record {
    fresh = λ n above.
        never_so (names_bio n) h this (ledger.fresh n (omega (arith, gone.next, above)))
        (others n (to_come n (omega (arith, gone.next, above))));
    taken = taken_quietly h this (λ n. refl) ledger.taken;
    live = live_after;
    accepted = All-append (AcceptsAreAccounted (h ++ this ∷ []) v) h (this ∷ [])
        (all_members (AcceptsAreAccounted h w) (AcceptsAreAccounted (h ++ this ∷ []) v) h
        (λ m here was line n is. accounted_by
        (record { world = after_entry m.before m.entry; line = line; bio = n }) (was line n is)) ledger.accepted)
        (All-from_recursion (AcceptsAreAccounted (h ++ this ∷ []) v) (this ∷ [])
        ((λ line n is. absurd (gone.accepts line n is)), tt));
  }
    where
      gone_now : (a : Acceptance) → a.bio ≡ x.number → bio_at v a.bio ≡ None
      gone_now a e =
          ap (λ n. bio_at v n) e ∙ ap (λ ys. find is_it ys) gone.bios
          ∙ at-gone (λ (z : Bio). z.number) x.number w.bios

      its_way : (a : Acceptance) → a.bio ≡ x.number → IsAccounted h w a → IsOnItsWay w a x
      its_way a e was =
          subst (λ z. MatchOption z (IsCompleted h a) (IsOnItsWay w a)) (ap (λ n. bio_at w n) e ∙ gone.found) was.stands

      accounted_by : (a : Acceptance) → IsAccounted h w a → IsAccounted (h ++ this ∷ []) v a
      accounted_by a was = by (a.bio == x.number) refl
        where
          by : (c : Bool) → (a.bio == x.number) ≡ c → IsAccounted (h ++ this ∷ []) v a
          by true e =
              let it : a.bio ≡ x.number = eqb-true a.bio x.number e in
              record {
                made = omega (arith, was.made, gone.next);
                stands = rw (gone_now a it) (complete a it (its_way a it was));
              }
          by false e =
              accounted_other a
              (λ it. both_ways (a.bio == x.number) e (rw it (eq-eqb x.number x.number refl))) was
