-- A Start keeps the ledger: the bio goes back with an error, is sent to its disk, or is split.
use Rattle.std.specs.Prelude.{◌≡◌, ◌≢◌, ℕ, suc, ◌+◌, ◌≤◌, ◌==◌, Bool, true, false, List, [], ◌∷◌, ◌++◌, length, map, filter, Option, Some, None, Ok, IsTrue, IsSomeAnd, All, option_map, if◌then◌else◌, ⊤}
use Rattle.std.specs.List.{AllByRecursion, enumerate_from, range_with_len}
use Rattle.std.proofs.Common.{refl, sym, ◌∙◌, ap, subst, arith, append-nil}
use Rattle.std.proofs.lemmas.Bool.{eq-eqb, ne_eqb}
use Rattle.std.proofs.lemmas.List.Elements.{All-append, All-from_recursion, recursion_from_All, filter-append}
use Rattle.geo_base.specs.declared.errno.Errno.{Errno}
use Rattle.geo_base.specs.declared.errno.Errno.TheVariants.{ENXIO, EIO}
use Rattle.geo_model.specs.declared.step.BioResult.{BioResult}
use Rattle.geo_model.specs.declared.step.BioResult.TheVariants as results
use Rattle.geo_model.specs.declared.step.Outcome.{Outcome}
use Rattle.geo_model.specs.declared.step.Outcome.TheVariants as outcomes
use Rattle.geo_model.specs.declared.step.Owner.{Owner}
use Rattle.geo_model.specs.declared.step.Owner.TheVariants as owners
use Rattle.geo_model.specs.declared.step.Phase.{Phase}
use Rattle.geo_model.specs.declared.step.Phase.TheVariants as phases
use Rattle.geo_model.specs.declared.step.Step.TheVariants as steps
use Rattle.geo_model.specs.Topology.{Topology, Geom, Provider, is_errored, provider_with_geom, note_started}
use Rattle.geo_model.specs.World.{World, Config, Nop, Bio, bio_at, change_number, children_of, is_child_of, is_down, is_waiting}
use Rattle.geo_model.specs.SoundBios.{IsFamilyInOrder, HasItsParent}
use Rattle.geo_model.specs.Bios.{Way, Bounces, Fails, Sends, Splits, Passes, PieceTarget, piece_child, is_hit, start_by, way_at, way_of, up_with}
use Rattle.geo_model.specs.Step.{step}
use Rattle.geo_model.specs.Log.{Moment}
use Rattle.geo_model.specs.Results.{bounce_errno, is_deliver_of, is_take_of, start_moment}
use Rattle.geo_model.specs.Graph.{AreNumbers}
use Rattle.geo_model.specs.History.{is_reply_to}
use Rattle.geo_laws_graph.proofs.Living.{all_members}
use Rattle.geo_laws_graph.proofs.Numbered.{number_found}
use Rattle.geo_laws_graph.proofs.Lists.{filter-changed}
use Rattle.geo_laws_bios.proofs.Items.{none_kept}
use Rattle.geo_laws_requests.specs.Histories.{names_bio, AnsweredAreTaken}
use Rattle.geo_laws_requests.specs.Covering.{SameMaps}
use Rattle.geo_laws_requests.specs.Ledger.{Ledger, IsLogged, SoFar}
use Rattle.geo_laws_requests.proofs.Logged.{never_so}
use Rattle.geo_laws_requests.proofs.Quiet.{moment_of, taken_quietly}
use Rattle.geo_laws_requests.proofs.Named.{StartsIt, starts_it}
use Rattle.geo_laws_requests.proofs.Turning.{KeepsRequest, IsNewChild, turned_keeps}
use Rattle.geo_laws_requests.proofs.Answered.{started_now, result_at}

-- with a Start more that isn't the Up of a bio no reply to it is told
pub unreplied_by_start : (h : List Moment) (m : Moment) (n b : ℕ) → m.entry.step ≡ steps.Start b
    → All (λ x. is_reply_to n x.entry ≡ false) h → All (λ x. is_reply_to n x.entry ≡ false) (h ++ m ∷ [])
unreplied_by_start h m n b is none =
    All-append (λ x. is_reply_to n x.entry ≡ false) h (m ∷ []) none
    (All-from_recursion (λ x. is_reply_to n x.entry ≡ false) (m ∷ []) ((rw is refl), tt))

-- a Start names its bio alone
start_names : (b n : ℕ) → n ≢ b → names_bio n (steps.Start b) ≡ false
start_names b n apart = rw (ne_eqb b n (λ same. apart (sym same))) refl

-- what a bio becomes by its Start keeps its request
pub keeps_up : (r : BioResult) → KeepsRequest (up_with r)
keeps_up r = record {
  number = λ y. refl;
  owner = λ y. refl;
  request = λ y. record { cmd = refl; offset = refl; len = refl; bytes = refl; target = refl };
}

-- a bio in another phase
abbrev pub in_phase : Phase → Bio → Bio
in_phase p y = record y { phase = p }

-- and so does another phase
pub keeps_phase : (p : Phase) → KeepsRequest (in_phase p)
keeps_phase p = record {
  number = λ y. refl;
  owner = λ y. refl;
  request = λ y. record { cmd = refl; offset = refl; len = refl; bytes = refl; target = refl };
}

-- the error of a bio that bounces is the one that its provider gives
abbrev ItsError : Topology Config → Bio → Way → Type 0
ItsError t x (Bounces e) = e ≡ (if is_errored t x.target then ENXIO else EIO)
ItsError t x (Fails g) = EIO ≡ (if is_errored t x.target then ENXIO else EIO)
ItsError t x way = ⊤

-- by the configuration of the geom
its_error_at : (t : Topology Config) (x : Bio) (p : Provider) (g : Geom Config) → is_errored t x.target ≡ false
    → (config : Config) → ItsError t x (way_at x p g config)
its_error_at t x p g fine (Nop below offset fail) = by (is_hit (g.started + 1) fail) refl
  where
    by : (b : Bool) → is_hit (g.started + 1) fail ≡ b → ItsError t x (way_at x p g (Nop below offset fail))
    by true e = rw e (rw fine refl)
    by false e = rw e tt
its_error_at t x p g fine _ = tt

-- whatever way a bio goes
its_error : (t : Topology Config) (x : Bio) → ItsError t x (way_of t x)
its_error t x = by (is_errored t x.target) refl
  where
    at : is_errored t x.target ≡ false → (o : Option (Provider × Geom Config)) → provider_with_geom t x.target ≡ o
        → ItsError t x (way_of t x)
    at fine None e = rw fine (rw e (rw fine refl))
    at fine (Some both) e =
        rw fine (rw e (its_error_at t x both.0 both.1 fine both.1.config))

    by : (b : Bool) → is_errored t x.target ≡ b → ItsError t x (way_of t x)
    by true e = rw e (rw e refl)
    by false e = at e (provider_with_geom t x.target) refl

-- a bio that is Down has no children
pub down_childless : (w : World) (x : Bio) → All (IsFamilyInOrder w.topology w.bios) w.bios → bio_at w x.number ≡ Some x
    → is_down x.phase ≡ true → children_of w x.number ≡ []
down_childless w x families found down =
    none_kept (λ (y : Bio). is_child_of y.owner x.number) w.bios
    (recursion_from_All (λ y. is_child_of y.owner x.number ≡ false) w.bios
    (all_members (IsFamilyInOrder w.topology w.bios) (λ y. is_child_of y.owner x.number ≡ false) w.bios
    (λ y here family. by_owner y.owner family.parent) families))
  where
    not_both : (p : Phase) → is_down p ≡ true → IsTrue (is_waiting p) → ⊥
    not_both phases.Down is waits = let bad : ⊥ = cc in bad
    not_both phases.Sent is waits = let bad : ⊥ = cc in bad
    not_both (phases.Busy seat) is waits = let bad : ⊥ = cc in bad
    not_both phases.Waiting is waits = let bad : ⊥ = cc in bad
    not_both phases.Up is waits = let bad : ⊥ = cc in bad
    not_both phases.Done is waits = let bad : ⊥ = cc in bad

    by_owner : (o : Owner) → HasItsParent w.bios o → is_child_of o x.number ≡ false
    by_owner (owners.Line handle line) parent = refl
    by_owner owners.Taste parent = refl
    by_owner (owners.Child parent index) waits =
        ne_eqb parent x.number
        (λ same. not_both x.phase down
        (rw found at (subst (λ n. IsSomeAnd (bio_at w n) (λ y. IsTrue (is_waiting y.phase))) same waits)))

module _ (h : List Moment) (w v : World) (seat b : ℕ) (x : Bio) (o : Outcome) (ledger : Ledger h w)
    (are : AreNumbers (map (λ (y : Bio). y.number) w.bios) w.next_bio)
    (families : All (IsFamilyInOrder w.topology w.bios) w.bios)
    (found : bio_at w x.number ≡ Some x) (same : x.number ≡ b) (down : x.phase ≡ phases.Down)
    (maps : SameMaps w v) where
  -- the moment of the Start
  abbrev this : Moment
  this = moment_of w seat (steps.Start b) o

  -- what is said of the bio while it is Down
  was_down : IsLogged h w x → SoFar h w x phases.Down
  was_down logged = subst (SoFar h w x) down logged.so_far

  -- the Start is found
  start_found_now : IsLogged h w x → start_moment (h ++ this ∷ []) x.number ≡ Some this
  start_found_now logged =
      started_now h this x.number (was_down logged).0 (rw same (eq-eqb b b refl))

  -- it is no Deliver
  taken_still : AnsweredAreTaken (h ++ this ∷ [])
  taken_still = taken_quietly h this (λ n. refl) ledger.taken

  -- names
  others : (n : ℕ) → n ≢ x.number → names_bio n (steps.Start b) ≡ false
  others n apart = start_names b n (λ e. apart (e ∙ sym same))

  -- a bio that bounces
  pub bounced_keeps : (e : Errno) → o ≡ outcomes.Bounced → e ≡ bounce_errno w (Some x)
      → v.bios ≡ change_number x.number (up_with (results.Failed e)) w.bios → v.next_bio ≡ w.next_bio
      → Ledger (h ++ this ∷ []) v
  bounced_keeps e is error bios next =
      turned_keeps h w v seat (steps.Start b) o ledger are x (up_with (results.Failed e)) []
      (record {
        keeps = keeps_up (results.Failed e);
        found = found;
        bios = bios ∙ sym (append-nil (change_number x.number (up_with (results.Failed e)) w.bios));
        next = omega (arith, next);
        children = All-from_recursion (IsNewChild w v x) [] tt;
        others = others;
        accepts = λ line n it. (let bad : ⊥ = cc in bad);
        maps = maps;
      }) taken_still logged_up
    where
      logged_up : IsLogged h w x → IsLogged (h ++ this ∷ []) v (up_with (results.Failed e) x)
      logged_up logged = record {
        unreplied = unreplied_by_start h this x.number b refl logged.unreplied;
        so_far = record {
          is = result_at h this x.number this (start_found_now logged)
              ∙ (rw is (ap (λ f. Some (results.Failed f)) (ap (λ z. bounce_errno w z) found ∙ sym error)));
          covers = λ success. absurd success;
        };
      }

  -- a bio that is sent to its disk
  pub sent_keeps : (disk : ℕ) → o ≡ outcomes.Queued disk
      → v.bios ≡ change_number x.number (in_phase phases.Sent) w.bios → v.next_bio ≡ w.next_bio
      → Ledger (h ++ this ∷ []) v
  sent_keeps disk is bios next =
      turned_keeps h w v seat (steps.Start b) o ledger are x (in_phase phases.Sent) []
      (record {
        keeps = keeps_phase phases.Sent;
        found = found;
        bios = bios ∙ sym (append-nil (change_number x.number (in_phase phases.Sent) w.bios));
        next = omega (arith, next);
        children = All-from_recursion (IsNewChild w v x) [] tt;
        others = others;
        accepts = λ line n it. (let bad : ⊥ = cc in bad);
        maps = maps;
      }) taken_still logged_sent
    where
      logged_sent : IsLogged h w x → IsLogged (h ++ this ∷ []) v (in_phase phases.Sent x)
      logged_sent logged = record {
        unreplied = unreplied_by_start h this x.number b refl logged.unreplied;
        so_far = (
          (rw (start_found_now logged) (disk, is)),
          never_so (is_take_of x.number) h this (was_down logged).1 refl,
          never_so (is_deliver_of x.number) h this (was_down logged).2 refl,
        );
      }

  -- Pieces

  -- the children for some of the pieces
  abbrev kids : Topology Config → ℕ → List PieceTarget → List Bio
  kids t k targets = map (λ item. piece_child t w.next_bio x item.0 item.1) (enumerate_from k targets)

  -- their numbers follow each other
  kids_follow : (t : Topology Config) (k : ℕ) (targets : List PieceTarget)
      → map (λ (y : Bio). y.number) (kids t k targets) ≡ range_with_len (w.next_bio + k) (length targets)
  kids_follow t k [] = refl
  kids_follow t k (z ∷ zs) =
      ap (λ ns. (w.next_bio + k) ∷ ns)
      (kids_follow t (k + 1) zs ∙ ap (λ n. range_with_len n (length zs)) (omega arith))

  -- each is a new child of the bio
  kids_new : (t : Topology Config) (k : ℕ) (targets : List PieceTarget) → (w.next_bio + k) + length targets ≤ v.next_bio
      → AllByRecursion (IsNewChild w v x) (kids t k targets)
  kids_new t k [] fit = tt
  kids_new t k (z ∷ zs) fit = (
    record { phase = refl; index = k; owner = refl; new = omega arith; below = omega (arith, fit) },
    kids_new t (k + 1) zs (omega (arith, fit)),
  )

  -- all of them are children of the bio
  all_kept : (t : Topology Config) (k : ℕ) (targets : List PieceTarget)
      → filter (λ (y : Bio). is_child_of y.owner x.number) (kids t k targets) ≡ kids t k targets
  all_kept t k [] = refl
  all_kept t k (z ∷ zs) =
      let its : (x.number == x.number) ≡ true = eq-eqb x.number x.number refl in
      rw its (ap (λ ys. piece_child t w.next_bio x k z ∷ ys) (all_kept t (k + 1) zs))

  -- a bio that is split
  pub split_keeps : (t : Topology Config) (targets : List PieceTarget) → o ≡ outcomes.Split w.next_bio (length targets)
      → v.bios ≡ change_number x.number (in_phase phases.Waiting) w.bios ++ kids t 0 targets
      → v.next_bio ≡ w.next_bio + length (kids t 0 targets)
      → Ledger (h ++ this ∷ []) v
  split_keeps t targets is bios next =
      turned_keeps h w v seat (steps.Start b) o ledger are x (in_phase phases.Waiting) (kids t 0 targets)
      (record {
        keeps = keeps_phase phases.Waiting;
        found = found;
        bios = bios;
        next = omega (arith, next);
        children = All-from_recursion (IsNewChild w v x) (kids t 0 targets)
            (kids_new t 0 targets (omega (arith, next, as_many 0 targets)));
        others = others;
        accepts = λ line n it. (let bad : ⊥ = cc in bad);
        maps = maps;
      }) taken_still logged_split
    where
      as_many : (k : ℕ) (zs : List PieceTarget) → length (kids t k zs) ≡ length zs
      as_many k [] = refl
      as_many k (z ∷ zs) = ap suc (as_many (k + 1) zs)

      of_it : Bio → Bool
      of_it y = is_child_of y.owner x.number

      changed : List Bio
      changed = change_number x.number (in_phase phases.Waiting) w.bios

      none_before : filter of_it changed ≡ []
      none_before =
          filter-changed (λ (y : Bio). y.number == x.number) (in_phase phases.Waiting) of_it (λ y e. refl) w.bios
          ∙ ap (λ ys. change_number x.number (in_phase phases.Waiting) ys)
          (down_childless w x families found (rw down refl))

      its_children : map (λ (y : Bio). y.number) (children_of v x.number) ≡ range_with_len w.next_bio (length targets)
      its_children =
          ap (λ ys. map (λ (y : Bio). y.number) ys)
          (ap (λ ys. filter of_it ys) bios ∙ filter-append of_it changed (kids t 0 targets)
          ∙ ap (λ ys. ys ++ filter of_it (kids t 0 targets)) none_before ∙ all_kept t 0 targets)
          ∙ kids_follow t 0 targets ∙ ap (λ n. range_with_len n (length targets)) (omega arith)

      logged_split : IsLogged h w x → IsLogged (h ++ this ∷ []) v (in_phase phases.Waiting x)
      logged_split logged = record {
        unreplied = unreplied_by_start h this x.number b refl logged.unreplied;
        so_far = record {
          moment = this;
          first = w.next_bio;
          count = length targets;
          is = start_found_now logged;
          outcome = is;
          children = its_children;
          cmd = ap (λ z. option_map (λ (y : Bio). y.cmd) z) found;
        };
      }

-- Each way

-- each Start keeps the ledger
pub starts_keep : (h : List Moment) (w v : World) (seat b : ℕ) (o : Outcome) → Ledger h w
    → AreNumbers (map (λ (y : Bio). y.number) w.bios) w.next_bio → All (IsFamilyInOrder w.topology w.bios) w.bios
    → SameMaps w v
    → step w seat (steps.Start b) ≡ Ok (v, o) → Ledger (h ++ moment_of w seat (steps.Start b) o ∷ []) v
starts_keep h w v seat b o ledger are families maps made =
    by (way_of w.topology x) (its_error w.topology x) it.made
  where
    it : StartsIt w v b o
    it = starts_it w v seat b o made

    x : Bio
    x = it.bio

    same : x.number ≡ b
    same = number_found (λ (y : Bio). y.number) w.bios b x it.found

    found : bio_at w x.number ≡ Some x
    found = ap (λ n. bio_at w n) same ∙ it.found

    by : (way : Way) → ItsError w.topology x way → (v, o) ≡ start_by w x way
        → Ledger (h ++ moment_of w seat (steps.Start b) o ∷ []) v
    by (Bounces e) error is =
        bounced_keeps h w v seat b x o ledger are families found same it.down maps e (ap (λ m. m.1) is) error
        (ap (λ (m : World × Outcome). m.0.bios) is) (ap (λ (m : World × Outcome). m.0.next_bio) is)
    by (Fails g) error is =
        bounced_keeps h w v seat b x o ledger are families found same it.down maps EIO (ap (λ m. m.1) is) error
        (ap (λ (m : World × Outcome). m.0.bios) is) (ap (λ (m : World × Outcome). m.0.next_bio) is)
    by (Sends disk) error is =
        sent_keeps h w v seat b x o ledger are families found same it.down maps disk (ap (λ m. m.1) is)
        (ap (λ (m : World × Outcome). m.0.bios) is) (ap (λ (m : World × Outcome). m.0.next_bio) is)
    by (Splits targets) error is =
        split_keeps h w v seat b x o ledger are families found same it.down maps w.topology targets (ap (λ m. m.1) is)
        (ap (λ (m : World × Outcome). m.0.bios) is) (ap (λ (m : World × Outcome). m.0.next_bio) is)
    by (Passes g targets) error is =
        split_keeps h w v seat b x o ledger are families found same it.down maps (note_started w.topology g) targets
        (ap (λ m. m.1) is)
        (ap (λ (m : World × Outcome). m.0.bios) is) (ap (λ (m : World × Outcome). m.0.next_bio) is)
