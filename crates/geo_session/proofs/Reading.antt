-- What is read of a live mesh.
use Rattle.std.specs.Prelude.{◌≡◌, ℕ, ◌==◌, ◌≤◌, nat_le, Bool, true, false, not, ◌&&◌, ◌||◌, List, [], length, find, Option, Some, None, is_some, is_none, is_ok}
use Rattle.std.specs.Option.{option_map, option_map_or, option_and_then}
use Rattle.std.proofs.Common.{refl, sym, ◌∙◌, ap, subst}
use Rattle.std.proofs.Math.Logic.{∥∥₁_map}
use Rattle.std.proofs.lemmas.List.{length-map}
use Rattle.std.proofs.lemmas.List.FromFn.{length-map-range_with_len}
use Rattle.geo_base.specs.declared.limits.TheConstants.{MAX_REQUEST_BYTES}
use Rattle.geo_model.specs.declared.command.LineCommand.{LineCommand}
use Rattle.geo_model.specs.declared.step.Entry.{Entry}
use Rattle.geo_model.specs.declared.step.Found.{Found}
use Rattle.geo_model.specs.declared.step.Phase.{Phase}
use Rattle.geo_model.specs.declared.step.Step.{Step}
use Rattle.geo_model.specs.World.{World, Bio, BioOf, bio_among}
use Rattle.geo_model.specs.Words.{is_read}
use Rattle.geo_model.specs.Fitting.{Firm, Fitting}
use Rattle.geo_model.specs.Freeing.{reap_work, wash_work}
use Rattle.geo_model.specs.Order.{first_bio, is_at_rest}
use Rattle.geo_model.specs.Sound.{Sound}
use Rattle.geo_model.specs.Steady.{Steady}
use Rattle.geo_model.specs.Step.{is_unsettled, step}
use Rattle.geo_model.proofs.FirmLemmas.{fitting_of, sound_of, steady_of}
use Rattle.geo_bio.specs.declared.bio.Held.{Held}
use Rattle.geo_log.specs.Places.{delivered_at}
use Rattle.geo_state.specs.Shown.{shown_bio}
use Rattle.geo_state.specs.Steps.{Stands}
use Rattle.geo_state.specs.Traffic.{first_in}
use Rattle.geo_state.specs.World.{world}
use Rattle.geo_moves.specs.Spots.{bytes_read, bytes_read_by, spot_in, spot_of}
use Rattle.geo_moves.proofs.Told as told
use Rattle.geo_session.specs.declared.live.Live.{Live}
use Rattle.geo_session.specs.Live.{session_view, IsSession}
use Rattle.geo_session.specs.Moves.{IsFoundAgainst}
use Rattle.geo_session.specs.Session.{SessionView, HasHistory, none_left}
use Rattle.geo_session.proofs.Answered.{found_at, session_stands}
use Rattle.geo_session.proofs.Histories.{history_keeps}
use Rattle.geo_session.proofs.Nones.{all_done}

-- a live mesh that is read, and what is seen of it
pub record Reads (l : Live) (v : SessionView) : Type 0 where
  pub is : IsSession l
  pub same : session_view l ≡ v

-- as it was read where it is kept
pub reads : {l kept : Live} {v : SessionView} → l ≡ kept → session_view kept ≡ v → IsSession kept → Reads l v
reads is view session = record { is = subst IsSession (sym is) session; same = ap session_view is ∙ view }

module _ {l : Live} {v : SessionView} (it : Reads l v) where
  abbrev log : ℕ → Option (List ℕ)
  log = let none : List Entry = [] in delivered_at none

  abbrev bios : List (BioOf Held)
  bios = l.state.traffic.bios

  pub shows : world (none_left l.actors) [] l.state ≡ v.world
  shows = ap (λ (x : SessionView). x.world) it.same

  pub read_stands : Stands l.state
  read_stands = session_stands l it.is

  read_firm : Firm v.world
  read_firm = subst Firm shows it.is.firm

  -- a step is enabled where nothing is against it
  pub enabled_is : (seat : ℕ) (st : Step) (f : Option Found) → IsFoundAgainst l.actors l.state seat st f
      → is_none f ≡ is_ok (step v.world seat st)
  enabled_is seat st f is_found =
      subst (λ (w : World). is_none f ≡ is_ok (step w seat st)) shows
      (told.enabled_by (step (world (none_left l.actors) [] l.state) seat st) f
      (found_at l.actors l.state seat st f is_found))

  -- all is at rest where nothing is to be settled
  pub rested : (b : Bool) → b ≡ is_unsettled (world (none_left l.actors) [] l.state) → not b ≡ is_at_rest v.world
  unfolding is_at_rest
  rested b is =
      subst (λ (w : World). not b ≡ is_at_rest w) shows
      (ap not is
      ∙ by (length w.events == 0) w.taste (length w.bios == 0) (reap_work w) (wash_work w)
      ∙ ap (λ done. done && rest) (sym (all_done l.actors)))
    where
      w : World
      w = world (none_left l.actors) [] l.state

      rest : Bool
      rest =
          (length w.bios == 0)
          && ((length w.events == 0) && (is_none w.taste && (is_none (reap_work w) && is_none (wash_work w))))

      by : {X Y Z : Type 0} (events : Bool) (taste : Option X) (none : Bool) (reaps : Option Y) (washes : Option Z)
          → not (not events || (is_some taste || (not none || (is_some reaps || is_some washes))))
          ≡ (none && (events && (is_none taste && (is_none reaps && is_none washes))))
      by true None true None None = refl
      by true None true None (Some z) = refl
      by true None true (Some y) washes = refl
      by true None false reaps washes = refl
      by true (Some x) true reaps washes = refl
      by true (Some x) false reaps washes = refl
      by false taste true reaps washes = refl
      by false taste false reaps washes = refl

  pub first_step : (test : Phase → Bool) (make : ℕ → Step) (o : Option ℕ) → o ≡ first_in test bios
      → option_map make o ≡ first_bio v.world (λ x. test x.phase) (λ x. make x.number)
  first_step = told.first_step (none_left l.actors) [] l.state shows

  pub next_shown : (from : ℕ)
      → option_map (λ (x : BioOf Held). x.number) (find (λ (x : BioOf Held). nat_le from x.number) bios)
      ≡ option_map (λ (x : Bio). x.number) (find (λ (x : Bio). nat_le from x.number) (v.world).bios)
  next_shown = told.next_shown (none_left l.actors) [] l.state shows

  pub bytes_shown : (bio : ℕ) (o : Option (BioOf Held)) → o ≡ bio_among bios bio
      → option_map_or (λ (x : Bio). bytes_read x.cmd x.len) (option_map (shown_bio log) o) 0
      ≡ bytes_read_by v.world bio
  bytes_shown = told.bytes_shown (none_left l.actors) [] l.state shows

  pub held_is_short : (bio : ℕ) (x : BioOf Held) → Some x ≡ bio_among bios bio → is_read x.cmd ≡ true
      → x.len ≤ MAX_REQUEST_BYTES
  held_is_short = told.held_is_short (none_left l.actors) [] l.state shows read_firm

  pub spot_shown : (bio : ℕ) (o : Option (BioOf Held)) → o ≡ bio_among bios bio
      → option_and_then (spot_in l.state.topo.topology) (option_map (shown_bio log) o) ≡ spot_of v.world bio
  spot_shown = told.spot_shown (none_left l.actors) [] l.state shows

  -- there are so many bios
  pub bios_shown : length bios ≡ length (v.world).bios
  bios_shown = sym (length-map bios (shown_bio log)) ∙ ap (λ (w : World). length w.bios) shows

  -- there are so many actors
  pub actors_shown : l.actors ≡ length (v.world).actors
  actors_shown =
      let none : ℕ → List LineCommand = λ actor. [] in
      sym (length-map-range_with_len none 0 l.actors) ∙ ap (λ (w : World). length w.actors) shows

  -- its history
  pub read_history : HasHistory v
  read_history = subst HasHistory it.same (∥∥₁_map it.is.history (λ h. (h, history_keeps h)))

  pub read_sound : Sound v.world
  read_sound = sound_of v.world read_firm

  pub read_steady : Steady v.world
  read_steady = steady_of v.world read_firm

  pub read_fitting : Fitting v.world
  read_fitting = fitting_of v.world read_firm
