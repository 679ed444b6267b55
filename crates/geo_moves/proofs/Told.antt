-- What is told of a world by the state that stands for it: what is first among its bios, how many bytes they read, where
-- they go, and what can be freed.
use Rattle.std.specs.Prelude.{◌≡◌, ℕ, ◌==◌, ◌≤◌, nat_le, Bool, true, false, not, List, Option, Some, None, is_some, is_none, is_ok, find, Contains, Ok, Err, IsSomeAnd}
use Rattle.std.specs.Option.{option_map, option_map_or, option_and_then}
use Rattle.std.proofs.Common.{refl, sym, ◌∙◌, ap, subst}
use Rattle.std.proofs.lemmas.List.Elements.{All-contains}
use Rattle.geo_base.specs.declared.limits.TheConstants.{MAX_REQUEST_BYTES}
use Rattle.geo_model.specs.declared.command.LineCommand.{LineCommand}
use Rattle.geo_model.specs.declared.step.Entry.{Entry}
use Rattle.geo_model.specs.declared.step.Found.{Found}
use Rattle.geo_model.specs.declared.step.Found.TheVariants as found
use Rattle.geo_model.specs.declared.step.Outcome.TheVariants as outcomes
use Rattle.geo_model.specs.declared.step.Phase.{Phase}
use Rattle.geo_model.specs.declared.step.Step.{Step}
use Rattle.geo_model.specs.declared.step.WashWork.{WashWork}
use Rattle.geo_model.specs.Topology.{Provider, provider_at}
use Rattle.geo_model.specs.World.{World, Bio, BioOf, Handle, bio_among, bio_at, granted_in}
use Rattle.geo_model.specs.Words.{is_flush, is_read}
use Rattle.geo_model.specs.Fitting.{Firm}
use Rattle.geo_model.specs.Freeing.{reap_work, reap, wash_work, wash}
use Rattle.geo_model.specs.Order.{first_bio}
use Rattle.geo_model.specs.SoundBios.{IsBioInOrder, IsRangeInside}
use Rattle.geo_model.specs.Step.{Answer, reap_next, wash_next}
use Rattle.geo_model.proofs.BioLemmas.{read_moves}
use Rattle.geo_laws_graph.proofs.Members.{find-Contains}
use Rattle.geo_bio.specs.declared.bio.Held.{Held}
use Rattle.geo_log.specs.Places.{delivered_at}
use Rattle.geo_state.specs.declared.state.State.{State}
use Rattle.geo_state.specs.Shown.{shown_bio}
use Rattle.geo_state.specs.Steps.{against, IsAgainst}
use Rattle.geo_state.specs.Traffic.{first_in}
use Rattle.geo_state.specs.World.{world}
use Rattle.geo_state.proofs.ShownLemmas.{shown_are_found}
use Rattle.geo_moves.specs.Spots.{bytes_read, bytes_read_by, spot_in, spot_of}

-- what is shown of a bio has its number
numbered : (make : ℕ → Step) (log : ℕ → Option (List ℕ)) (o : Option (BioOf Held))
    → option_map (λ (x : Bio). make x.number) (option_map (shown_bio log) o)
    ≡ option_map make (option_map (λ (x : BioOf Held). x.number) o)
numbered make log None = refl
numbered make log (Some x) = refl

least : (log : ℕ → Option (List ℕ)) (o : Option (BioOf Held))
    → option_map (λ (x : Bio). x.number) (option_map (shown_bio log) o) ≡ option_map (λ (x : BioOf Held). x.number) o
least log None = refl
least log (Some x) = refl

-- what isn't some is none
pub none_told : {X : Type 0} (o : Option X) (b : Bool) → is_some o ≡ not b → b ≡ is_none o
none_told None true told = refl
none_told None false told = absurd (cc)
none_told (Some x) true told = absurd (cc)
none_told (Some x) false told = refl

-- a step is enabled where nothing is against it
pub enabled_by : (a : Answer) (f : Option Found) → against a ≡ f → is_none f ≡ is_ok a
enabled_by (Ok made) f e = rw (← e) refl
enabled_by (Err found) f e = rw (← e) refl

-- a reap or a wash is possible just where nothing is against it

no_work : {X : Type 0} (f : X → World) (none : Found) (o : Option X) (b : Option Found)
    → against (option_map_or (λ x. Ok (f x, outcomes.Ran)) o (Err none)) ≡ b → is_some b ≡ is_none o
no_work f none None b e = rw (← e) refl
no_work f none (Some x) b e = rw (← e) refl

-- a READ of a firm mesh is no longer than the longest request
read_is_short : (w : World) → Firm w → (x : Bio) → Contains w.bios x → is_read x.cmd ≡ true → x.len ≤ MAX_REQUEST_BYTES
read_is_short w firm x here reads = by (provider_at w.topology x.target) order.target
  where
    order : IsBioInOrder (granted_in w) w.topology x
    order = All-contains (IsBioInOrder (granted_in w) w.topology) w.bios x firm.bios.order here

    by : (o : Option Provider) → IsSomeAnd o (λ p. is_flush x.cmd ≡ false → IsRangeInside x p)
        → x.len ≤ MAX_REQUEST_BYTES
    by None at = absurd at
    by (Some p) at = (at (read_moves x.cmd reads)).not_long

module _ (actors : List (List LineCommand)) (entries : List Entry) (s : State) {w : World}
    (shows : world actors entries s ≡ w) where
  abbrev log : ℕ → Option (List ℕ)
  log = delivered_at entries

  abbrev bios : List (BioOf Held)
  bios = s.traffic.bios

  -- what is found among the bios of the world is found among those of the state
  pub finds : (test : Bio → Bool) → find test w.bios ≡ option_map (shown_bio log) (find (λ x. test (shown_bio log x)) bios)
  finds test = ap (λ (u : World). find test u.bios) (sym shows) ∙ (shown_are_found log bios).finds test

  -- the first bio that passes, as a step by its number
  pub first_step : (test : Phase → Bool) (make : ℕ → Step) (o : Option ℕ) → o ≡ first_in test bios
      → option_map make o ≡ first_bio w (λ x. test x.phase) (λ x. make x.number)
  first_step test make o is =
      ap (option_map make) is
      ∙ sym (ap (option_map (λ (x : Bio). make x.number)) (finds (λ x. test x.phase))
      ∙ numbered make log (find (λ (x : BioOf Held). test x.phase) bios))

  -- the first one from a number on
  pub next_shown : (from : ℕ)
      → option_map (λ (x : BioOf Held). x.number) (find (λ (x : BioOf Held). nat_le from x.number) bios)
      ≡ option_map (λ (x : Bio). x.number) (find (λ (x : Bio). nat_le from x.number) w.bios)
  next_shown from =
      sym (ap (option_map (λ (x : Bio). x.number)) (finds (λ x. nat_le from x.number))
      ∙ least log (find (λ (x : BioOf Held). nat_le from x.number) bios))

  -- the bio of a number, as it was looked up
  pub at_number : (bio : ℕ) (o : Option (BioOf Held)) → o ≡ bio_among bios bio
      → bio_at w bio ≡ option_map (shown_bio log) o
  at_number bio o is = finds (λ x. x.number == bio) ∙ ap (option_map (shown_bio log)) (sym is)

  -- how many bytes it reads
  pub bytes_shown : (bio : ℕ) (o : Option (BioOf Held)) → o ≡ bio_among bios bio
      → option_map_or (λ (x : Bio). bytes_read x.cmd x.len) (option_map (shown_bio log) o) 0 ≡ bytes_read_by w bio
  bytes_shown bio o is =
      sym (ap (λ (p : Option Bio). option_map_or (λ x. bytes_read x.cmd x.len) p 0) (at_number bio o is))

  -- a READ is short
  pub held_is_short : Firm w → (bio : ℕ) (x : BioOf Held) → Some x ≡ bio_among bios bio → is_read x.cmd ≡ true
      → x.len ≤ MAX_REQUEST_BYTES
  held_is_short firm bio x there reads =
      read_is_short w firm (shown_bio log x)
      (find-Contains (λ (y : Bio). y.number == bio) w.bios (shown_bio log x) (at_number bio (Some x) there)) reads

  -- where it goes if it waits for its disk
  pub spot_shown : (bio : ℕ) (o : Option (BioOf Held)) → o ≡ bio_among bios bio
      → option_and_then (spot_in s.topo.topology) (option_map (shown_bio log) o) ≡ spot_of w bio
  spot_shown bio o is =
      ap (λ (u : World). option_and_then (spot_in u.topology) (option_map (shown_bio log) o)) shows
      ∙ ap (option_and_then (spot_in w.topology)) (sym (at_number bio o is))

  -- nothing can be reaped where that is what is found
  pub unreaped : (reaps : Option Found) → IsAgainst reap_next s reaps → is_some reaps ≡ is_none (reap_work w)
  unfolding reap_next
  unreaped reaps none =
      subst (λ (u : World). is_some reaps ≡ is_none (reap_work u)) shows
      (no_work (λ (h : Handle). reap (world actors entries s) h) found.NothingToReap
      (reap_work (world actors entries s)) reaps (none actors entries))

  -- nor washed
  pub unwashed : (washes : Option Found) → IsAgainst wash_next s washes → is_some washes ≡ is_none (wash_work w)
  unfolding wash_next
  unwashed washes none =
      subst (λ (u : World). is_some washes ≡ is_none (wash_work u)) shows
      (no_work (λ (work : WashWork). wash (world actors entries s) work) found.NothingToWash
      (wash_work (world actors entries s)) washes (none actors entries))
