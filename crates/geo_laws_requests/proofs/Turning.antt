-- A step that turns one bio, and may give it children, keeps the ledger, where the history tells what the bio then is.
use Rattle.std.specs.Prelude.{◌≡◌, ◌≢◌, ℕ, ◌<◌, ◌≤◌, ◌==◌, Bool, true, false, List, [], ◌∷◌, ◌++◌, map, filter, find, Option, Some, None, MatchOption, All, Contains}
use Rattle.std.specs.Option.{option_or}
use Rattle.std.proofs.Common.{refl, sym, ◌∙◌, ap, append-nil, subst, arith}
use Rattle.std.proofs.lemmas.Bool.{eq-eqb, eqb-true, both_ways, ne_eqb}
use Rattle.std.proofs.lemmas.List.Elements.{All-append, All-contains, All-from_recursion, filter-append, recursion_from_All}
use Rattle.std.proofs.lemmas.List.Folds.{find-append}
use Rattle.geo_model.specs.declared.step.Outcome.{Outcome}
use Rattle.geo_model.specs.declared.step.Owner.TheVariants as owners
use Rattle.geo_model.specs.declared.step.Phase.TheVariants as phases
use Rattle.geo_model.specs.declared.step.Step.{Step}
use Rattle.geo_model.specs.World.{World, Bio, bio_at, change_number, children_of, is_child_of}
use Rattle.geo_model.specs.Log.{Moment, after_entry}
use Rattle.geo_model.specs.History.{Acceptance}
use Rattle.geo_model.specs.Graph.{AreNumbers}
use Rattle.geo_laws_graph.proofs.Lists.{filter-changed, found_nowhere, map-changed}
use Rattle.geo_laws_graph.proofs.Living.{all_members}
use Rattle.geo_laws_graph.proofs.Members.{Contains-map, find-Contains}
use Rattle.geo_laws_graph.proofs.Numbered.{at-here, at-unchanged}
use Rattle.geo_laws_bios.proofs.Items.{all_changed, none_kept}
use Rattle.geo_laws_requests.specs.Histories.{names_bio, AnsweredAreTaken}
use Rattle.geo_laws_requests.specs.Arrivals.{AcceptsNone}
use Rattle.geo_laws_steps.specs.WayLaws.{SameMap}
use Rattle.geo_laws_requests.specs.Covering.{SameMaps}
use Rattle.geo_laws_requests.specs.Ledger.{Ledger, IsLogged, IsAccounted, AcceptsAreAccounted, IsOnItsWay, IsCompleted, IsSameRequest}
use Rattle.geo_laws_requests.proofs.Logged.{never_so, logged_stays}
use Rattle.geo_laws_requests.proofs.Accounted.{on_its_way_stays}
use Rattle.geo_laws_requests.proofs.Quiet.{moment_of, accounted_quietly, new_bio_logged}

-- what a change of a bio keeps: number, owner and request
pub record KeepsRequest (change : Bio → Bio) : Type 0 where
  pub number : (y : Bio) → (change y).number ≡ y.number
  pub owner : (y : Bio) → (change y).owner ≡ y.owner
  pub request : (y : Bio) → IsSameRequest y (change y)

-- a new child of a bio: it is Down, and has a number that none has so far
pub record IsNewChild (w v : World) (x y : Bio) : Type 0 where
  pub phase : y.phase ≡ phases.Down
  pub index : ℕ
  pub owner : y.owner ≡ owners.Child x.number index
  pub new : w.next_bio ≤ y.number
  pub below : y.number < v.next_bio

-- a step that turns the bio x and may give it children: it names no other, and accepts nothing
pub record Turns (w v : World) (s : Step) (o : Outcome) (x : Bio) (change : Bio → Bio) (born : List Bio) : Type 0 where
  pub keeps : KeepsRequest change
  pub found : bio_at w x.number ≡ Some x
  pub bios : v.bios ≡ change_number x.number change w.bios ++ born
  pub next : w.next_bio ≤ v.next_bio
  pub children : All (IsNewChild w v x) born
  pub others : (n : ℕ) → n ≢ x.number → names_bio n s ≡ false
  pub accepts : AcceptsNone o
  pub maps : SameMaps w v

module _ (h : List Moment) (w v : World) (seat : ℕ) (s : Step) (o : Outcome) (ledger : Ledger h w)
    (are : AreNumbers (map (λ (y : Bio). y.number) w.bios) w.next_bio) (x : Bio) (change : Bio → Bio)
    (born : List Bio) (turns : Turns w v s o x change born) where
  -- the moment of the step
  abbrev this : Moment
  this = moment_of w seat s o

  -- a number that none has so far isn't that of the bio
  pub to_come : (b : ℕ) → w.next_bio ≤ b → b ≢ x.number
  to_come b above same =
      let below : x.number < w.next_bio =
      All-contains (λ n. n < w.next_bio) (map (λ (y : Bio). y.number) w.bios) x.number are.1
      (Contains-map (λ (y : Bio). y.number) w.bios x
      (find-Contains (λ (y : Bio). y.number == x.number) w.bios x turns.found)) in
      absurd (omega (arith, same, above, below))

  -- the bios that stood, after the step
  abbrev changed : List Bio
  changed = change_number x.number change w.bios

  -- none of the new children is one of another bio
  no_other_child : (n : ℕ) → n ≢ x.number → filter (λ (y : Bio). is_child_of y.owner n) born ≡ []
  no_other_child n apart =
      none_kept (λ (y : Bio). is_child_of y.owner n) born
      (recursion_from_All (λ y. is_child_of y.owner n ≡ false) born
      (all_members (IsNewChild w v x) (λ y. is_child_of y.owner n ≡ false) born
      (λ y here is. rw is.owner (ne_eqb x.number n (λ same. apart (sym same)))) turns.children))

  -- the children of another bio have the numbers that they had
  pub children_turned : (n : ℕ) → n ≢ x.number
      → map (λ (y : Bio). y.number) (children_of v n) ≡ map (λ (y : Bio). y.number) (children_of w n)
  children_turned n apart =
      ap (λ ys. map (λ (y : Bio). y.number) (filter (λ (y : Bio). is_child_of y.owner n) ys)) turns.bios
      ∙ ap (λ ys. map (λ (y : Bio). y.number) ys)
      (filter-append (λ (y : Bio). is_child_of y.owner n) changed born
      ∙ ap (λ ys. filter (λ (y : Bio). is_child_of y.owner n) changed ++ ys) (no_other_child n apart)
      ∙ append-nil (filter (λ (y : Bio). is_child_of y.owner n) changed)
      ∙ filter-changed (λ (y : Bio). y.number == x.number) change (λ (y : Bio). is_child_of y.owner n)
      (λ y e. ap (λ owner. is_child_of owner n) (turns.keeps.owner y)) w.bios)
      ∙ map-changed (λ (y : Bio). y.number == x.number) change (λ (y : Bio). y.number)
      (λ y e. turns.keeps.number y) (children_of w n)

  -- at a number that was given out the same is found as among those that stood
  found_turned : (b : ℕ) → b < w.next_bio → bio_at v b ≡ find (λ (y : Bio). y.number == b) changed
  found_turned b below =
      ap (λ ys. find (λ (y : Bio). y.number == b) ys) turns.bios
      ∙ find-append (λ (y : Bio). y.number == b) changed born
      ∙ ap (λ o. option_or (find (λ (y : Bio). y.number == b) changed) o) none
      ∙ or_none (find (λ (y : Bio). y.number == b) changed)
    where
      or_none : (o : Option Bio) → option_or o None ≡ o
      or_none None = refl
      or_none (Some y) = refl

      none : find (λ (y : Bio). y.number == b) born ≡ None
      none =
          found_nowhere (λ (y : Bio). y.number) b born
          (recursion_from_All (λ y. (y.number == b) ≡ false) born
          (all_members (IsNewChild w v x) (λ y. (y.number == b) ≡ false) born
          (λ y here is. ne_eqb y.number b (λ same. absurd (omega (arith, same, is.new, below)))) turns.children))

  -- each acceptance is accounted for as it was
  accounted_turned : (a : Acceptance) → IsAccounted h w a → IsAccounted (h ++ this ∷ []) v a
  accounted_turned a was = by (a.bio == x.number) refl
    where
      at_it : a.bio ≡ x.number → (z : Option Bio) → bio_at w a.bio ≡ z
          → MatchOption z (IsCompleted h a) (IsOnItsWay w a)
          → MatchOption (bio_at v a.bio) (IsCompleted (h ++ this ∷ []) a) (IsOnItsWay v a)
      at_it same None is done =
          let there : bio_at w a.bio ≡ Some x = ap (λ n. bio_at w n) same ∙ turns.found in
          absurd (let bad : ⊥ = cc in bad)
      at_it same (Some y) is way =
          let there : bio_at w a.bio ≡ Some x = ap (λ n. bio_at w n) same ∙ turns.found in
          let one : y ≡ x = cc in
          let now : bio_at v a.bio ≡ Some (change x) =
          found_turned a.bio was.made ∙ ap (λ n. find (λ (z : Bio). z.number == n) changed) same
          ∙ at-here (λ (z : Bio). z.number) change turns.keeps.number x.number w.bios x turns.found in
          let its_way : IsOnItsWay w a x = subst (IsOnItsWay w a) one way in
          rw now
          (on_its_way_stays w v a x (change x) (sym (turns.keeps.owner x)) (turns.keeps.request x)
          (All-contains (λ (z : Bio). SameMap w.topology v.topology z.target) w.bios x turns.maps
          (find-Contains (λ (z : Bio). z.number == x.number) w.bios x turns.found)) its_way)

      by : (b : Bool) → (a.bio == x.number) ≡ b → IsAccounted (h ++ this ∷ []) v a
      by true e = record {
        made = omega (arith, was.made, turns.next);
        stands = at_it (eqb-true a.bio x.number e) (bio_at w a.bio) refl was.stands;
      }
      by false e =
          let apart : a.bio ≢ x.number =
          (λ same. both_ways (a.bio == x.number) e (rw same (eq-eqb x.number x.number refl))) in
          accounted_quietly h this w v a ledger.taken turns.maps (turns.others a.bio apart) turns.next
          (found_turned a.bio was.made
          ∙ at-unchanged (λ (z : Bio). z.number) change turns.keeps.number x.number a.bio apart w.bios) was

  -- the ledger goes on, where what is then answered was taken, and the history tells what the bio then is
  pub turned_keeps : AnsweredAreTaken (h ++ this ∷ []) → (IsLogged h w x → IsLogged (h ++ this ∷ []) v (change x))
      → Ledger (h ++ this ∷ []) v
  turned_keeps taken logged = record {
    fresh = λ b above.
        never_so (names_bio b) h this (ledger.fresh b (omega (arith, turns.next, above)))
        (turns.others b (to_come b (omega (arith, turns.next, above))));
    taken = taken;
    live = subst (λ ys. All (IsLogged (h ++ this ∷ []) v) ys) (sym turns.bios)
        (All-append (IsLogged (h ++ this ∷ []) v) changed born
        (all_changed (λ (y : Bio). y.number) change w.next_bio w.bios x are turns.found (IsLogged (h ++ this ∷ []) v)
        (λ y. Contains w.bios y × IsLogged h w y) (λ both. logged both.1) other
        (all_members (IsLogged h w) (λ y. Contains w.bios y × IsLogged h w y) w.bios (λ y here is. (here, is))
        ledger.live))
        (all_members (IsNewChild w v x) (IsLogged (h ++ this ∷ []) v) born (λ y here is. logged_born y is)
        turns.children));
    accepted = All-append (AcceptsAreAccounted (h ++ this ∷ []) v) h (this ∷ [])
        (all_members (AcceptsAreAccounted h w) (AcceptsAreAccounted (h ++ this ∷ []) v) h
        (λ m here was line b is. accounted_turned
        (record { world = after_entry m.before m.entry; line = line; bio = b }) (was line b is)) ledger.accepted)
        (All-from_recursion (AcceptsAreAccounted (h ++ this ∷ []) v) (this ∷ [])
        ((λ line b is. absurd (turns.accepts line b is)), tt));
  }
    where
      logged_born : (y : Bio) → IsNewChild w v x y → IsLogged (h ++ this ∷ []) v y
      logged_born y is =
          new_bio_logged (h ++ this ∷ []) v y is.phase
          (never_so (names_bio y.number) h this (ledger.fresh y.number is.new)
          (turns.others y.number (to_come y.number is.new)))

      other : (y : Bio) → (y.number == x.number) ≡ false → Contains w.bios y × IsLogged h w y
          → IsLogged (h ++ this ∷ []) v y
      other y e both =
          logged_stays h this w v y
          (record {
            unnamed_by = turns.others y.number
                (λ same. both_ways (y.number == x.number) e (rw same (eq-eqb x.number x.number refl)));
            children = children_turned y.number
                (λ same. both_ways (y.number == x.number) e (rw same (eq-eqb x.number x.number refl)));
            its_map = All-contains (λ (z : Bio). SameMap w.topology v.topology z.target) w.bios y turns.maps both.0;
            taken = ledger.taken;
          }) both.1
