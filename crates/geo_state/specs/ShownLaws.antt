-- What is said of the table's bios is what the mesh's definitions say of the bios of a world.
use Rattle.std.specs.Prelude.{◌≡◌, ℕ, ◌+◌, ◌<◌, ◌≤◌, Bool, List, [], ◌∷◌, ◌++◌, length, map, filter, find, count_by, Option, Some, IsTrue}
use Rattle.std.specs.List.{list_any, list_all}
use Rattle.std.specs.Option.{option_map}
use Rattle.geo_base.specs.declared.request.BioCmd.{BioCmd}
use Rattle.geo_base.specs.declared.errno.Errno.{Errno}
use Rattle.geo_model.specs.declared.step.BioResult.{BioResult}
use Rattle.geo_model.specs.declared.step.DeviceResult.{DeviceResult}
use Rattle.geo_model.specs.declared.step.Entry.{Entry}
use Rattle.geo_model.specs.declared.step.Outcome.TheVariants as outcomes
use Rattle.geo_model.specs.declared.step.Owner.{Owner}
use Rattle.geo_model.specs.declared.step.Owner.TheVariants as owners
use Rattle.geo_model.specs.declared.step.Phase.{Phase}
use Rattle.geo_model.specs.declared.step.Phase.TheVariants as phases
use Rattle.geo_model.specs.declared.step.Step.TheVariants as steps
use Rattle.geo_model.specs.Graph.{AreNumbers}
use Rattle.geo_model.specs.declared.span.Piece.{Piece}
use Rattle.geo_model.specs.World.{World, Bio, BioOf, bio_at, children_of, children_among, change_number, bio_among}
use Rattle.geo_model.specs.Bios.{PieceTarget, new_bio, up_with, submit, bounce, send, split_bio, take_bio, deliver, up_to, taste_with, reply_of_result, request_of_bio, result_of_device, fits_bio}
use Rattle.geo_bio.specs.declared.bio.Held.{Held}
use Rattle.geo_bio.specs.declared.bio.Held.TheVariants as held
use Rattle.geo_bio.specs.BioTable.{with_phase, delivered, delivered_result}
use Rattle.geo_bio.specs.PieceLaws.{target_in}
use Rattle.geo_bio.specs.Split.{split_into}
use Rattle.geo_bio.specs.Up.{resolved, held_as, are_in, after_up}
use Rattle.geo_log.specs.Places.{delivered_at}
use Rattle.geo_state.specs.Traffic.{first_in, count_in}
use Rattle.geo_state.specs.Shown.{shown_bios, shown_bio, errno_of, held_of, AreLogged}

-- searches, selections and counts of the world's bios are those of the table's; a test that reads no result is the
-- same test of the table's bio, by computation
pub record ShownAreFound (log : ℕ → Option (List ℕ)) (bios : List (BioOf Held)) : Type 0 where
  pub finds : (test : Bio → Bool)
      → find test (shown_bios log bios) ≡ option_map (shown_bio log) (find (λ x. test (shown_bio log x)) bios)
  pub filters : (test : Bio → Bool)
      → filter test (shown_bios log bios) ≡ shown_bios log (filter (λ x. test (shown_bio log x)) bios)
  pub counts : (test : Bio → Bool) → count_by test (shown_bios log bios) ≡ count_by (λ x. test (shown_bio log x)) bios
  pub any : (test : Bio → Bool) → list_any test (shown_bios log bios) ≡ list_any (λ x. test (shown_bio log x)) bios
  pub all : (test : Bio → Bool) → list_all test (shown_bios log bios) ≡ list_all (λ x. test (shown_bio log x)) bios
  pub len : length (shown_bios log bios) ≡ length bios
  pub first : (test : Phase → Bool) → first_in test (shown_bios log bios) ≡ first_in test bios
  pub count : (test : Phase → Bool) → count_in test (shown_bios log bios) ≡ count_in test bios

-- changes of the world's bios are those of the table's
pub record ShownChanges (log : ℕ → Option (List ℕ)) (bios : List (BioOf Held)) : Type 0 where
  pub appends : (more : List (BioOf Held)) → shown_bios log (bios ++ more) ≡ shown_bios log bios ++ shown_bios log more
  pub moves : (b : ℕ) (phase : Phase)
      → shown_bios log (change_number b (with_phase phase) bios)
      ≡ change_number b (with_phase phase) (shown_bios log bios)
  pub ends : (b : ℕ) (h : Held)
      → shown_bios log (change_number b (up_with h) bios)
      ≡ change_number b (up_with (resolved log (Some h))) (shown_bios log bios)
  pub changes : (b : ℕ) (f : BioOf Held → BioOf Held) (g : Bio → Bio)
      → ((x : BioOf Held) → shown_bio log (f x) ≡ g (shown_bio log x))
      → shown_bios log (change_number b f bios) ≡ change_number b g (shown_bios log bios)

-- a world that has the shown bios finds among them what the table finds, and its steps of bios make of them what
-- the table's calls make, where what a disk answered is held by the bio itself; x is a bio of the table
pub record BiosAreOfWorld (log : ℕ → Option (List ℕ)) (bios : List (BioOf Held)) (w : World) : Type 0 where
  pub finds : (b : ℕ) → bio_at w b ≡ option_map (shown_bio log) (bio_among bios b)
  pub children : (b : ℕ) → children_of w b ≡ shown_bios log (children_among bios b)
  pub submits : (cmd : BioCmd) (offset len : ℕ) (bytes : List ℕ) (source target : ℕ) (owner : Owner)
      → submit w cmd offset len bytes source target owner
      ≡ record w {
        bios = shown_bios log (bios ++ new_bio w.next_bio cmd offset len bytes source target owner ∷ []);
        next_bio = w.next_bio + 1;
      }
  pub bounces : (x : BioOf Held) (e : Errno)
      → bounce w (shown_bio log x) e
      ≡ (
        record w { bios = shown_bios log (change_number x.number (up_with (held.Failed e)) bios) },
        outcomes.Bounced,
      )
  pub sends : (x : BioOf Held) (disk : ℕ)
      → send w (shown_bio log x) disk
      ≡ (
        record w { bios = shown_bios log (change_number x.number (with_phase phases.Sent) bios) },
        outcomes.Queued disk,
      )
  pub splits : (x : BioOf Held) (zs : List PieceTarget)
      → split_bio w (shown_bio log x) zs
      ≡ (
        record w {
          bios = shown_bios log (change_number x.number (with_phase phases.Waiting) bios
              ++ split_into w.next_bio x 0 (map (λ z. z.piece) zs) (map (target_in w.topology) zs));
          next_bio = w.next_bio + length zs;
        },
        outcomes.Split w.next_bio (length zs),
      )
  pub takes : (x : BioOf Held) (seat disk : ℕ)
      → take_bio w seat disk (shown_bio log x)
      ≡ (
        record w { bios = shown_bios log (change_number x.number (with_phase (phases.Busy seat)) bios) },
        outcomes.Asked (request_of_bio w disk (shown_bio log x)),
      )
  pub delivers : (x : BioOf Held) (got : DeviceResult)
      → deliver w (shown_bio log x) got
      ≡ (
        record w { bios = shown_bios log (change_number x.number (up_with (held_of got)) bios) },
        outcomes.Delivered,
      )
  pub rises_to_line : (x : BioOf Held) (handle line : ℕ)
      → up_to w (shown_bio log x) (owners.Line handle line)
      ≡ (
        record w { bios = shown_bios log (after_up log bios x (owners.Line handle line)) },
        outcomes.Replied line (reply_of_result (resolved log x.result)),
      )
  pub rises_to_taste : (x : BioOf Held)
      → up_to w (shown_bio log x) owners.Taste
      ≡ (
        record w {
          bios = shown_bios log (after_up log bios x owners.Taste);
          taste = taste_with (resolved log x.result) w.taste;
        },
        outcomes.TasteBack,
      )
  pub rises_to_parent : (x : BioOf Held) (parent index : ℕ)
      → up_to w (shown_bio log x) (owners.Child parent index)
      ≡ (
        record w { bios = shown_bios log (after_up log bios x (owners.Child parent index)) },
        outcomes.Gathered parent (are_in (change_number x.number (with_phase phases.Done) bios) parent),
      )

-- a world has the bios of a table, where `log` tells the bytes of a place
abbrev pub WorldShowsBios : Type 0
WorldShowsBios =
    (log : ℕ → Option (List ℕ)) (bios : List (BioOf Held)) (w : World) → w.bios ≡ shown_bios log bios
    → BiosAreOfWorld log bios w

-- a delivery does in the world what it does in the table, where the place, or the error, is the device's answer
abbrev pub DeliveriesAreShown : Type 0
DeliveriesAreShown =
    (log : ℕ → Option (List ℕ)) (bios : List (BioOf Held)) (w : World) (x : BioOf Held) (place : ℕ)
    (got : DeviceResult) (next : ℕ) → w.bios ≡ shown_bios log bios → AreNumbers (map (λ y. y.number) bios) next
    → bio_among bios x.number ≡ Some x
    → resolved log (Some (delivered_result x.cmd place (errno_of got))) ≡ result_of_device got
    → deliver w (shown_bio log x) got
    ≡ (
      record w { bios = shown_bios log (change_number x.number (delivered place (errno_of got)) bios) },
      outcomes.Delivered,
    )

-- the place of a Deliver in a log is one whose bytes, or the error, are what the device answered
abbrev pub PlaceIsAnswer : Type 0
PlaceIsAnswer =
    (entries more : List Entry) (e : Entry) (bio sector : ℕ) (x : BioOf Held) (got : DeviceResult)
    → e.step ≡ steps.Deliver bio got → IsTrue (fits_bio sector x got)
    → resolved (delivered_at (entries ++ e ∷ more)) (Some (delivered_result x.cmd (length entries) (errno_of got)))
    ≡ result_of_device got

-- a log that grew shows the same bios, where each place that they name was in it
abbrev pub GrownLogShowsTheSame : Type 0
GrownLogShowsTheSame =
    (entries more : List Entry) (bios : List (BioOf Held)) → AreLogged (length entries) bios
    → shown_bios (delivered_at (entries ++ more)) bios ≡ shown_bios (delivered_at entries) bios

-- each call leaves only places that the log has; a delivery names its own, and a bio that holds its result none
pub record LoggedStay (places : ℕ) (bios : List (BioOf Held)) : Type 0 where
  pub more : (n : ℕ) → places ≤ n → AreLogged n bios
  pub submits : (number : ℕ) (cmd : BioCmd) (offset len : ℕ) (bytes : List ℕ) (source target : ℕ) (owner : Owner)
      → AreLogged places (bios ++ new_bio number cmd offset len bytes source target owner ∷ [])
  pub bounces : (b : ℕ) (e : Errno) → AreLogged places (change_number b (up_with (held.Failed e)) bios)
  pub moves : (b : ℕ) (phase : Phase) → AreLogged places (change_number b (with_phase phase) bios)
  pub splits : (b first : ℕ) (x : BioOf Held) (pieces : List Piece) (targets : List (ℕ × ℕ))
      → AreLogged places (change_number b (with_phase phases.Waiting) bios ++ split_into first x 0 pieces targets)
  pub delivers : (b place : ℕ) (errno : Option Errno) → place < places
      → AreLogged places (change_number b (delivered place errno) bios)
  pub ends : (b : ℕ) (r : BioResult) → AreLogged places (change_number b (up_with (held_as r)) bios)
  pub rises : (log : ℕ → Option (List ℕ)) (x : BioOf Held) (owner : Owner)
      → AreLogged places (after_up log bios x owner)

-- where the places are in the log, they are after each call
abbrev pub PlacesStayLogged : Type 0
PlacesStayLogged = (places : ℕ) (bios : List (BioOf Held)) → AreLogged places bios → LoggedStay places bios
