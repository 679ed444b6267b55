-- What becomes of a bio: start, take, deliver, up (g_bio(9)).
use Rattle.std.specs.Prelude.{ℕ, ◌+◌, ◌/◌, ◌%◌, ◌==◌, nat_le, Bool, false, not, ◌&&◌, ◌||◌, List, [], ◌∷◌, ◌++◌, length, map, filter, filter_map, flat_map, find, take, drop, Option, Some, None, unwrap_or, if◌then◌else◌}
use Rattle.std.specs.List.{list_all, enumerate_from}
use Rattle.std.specs.Option.{option_map, option_map_or, option_and_then}
use Rattle.geo_base.specs.declared.request.BioCmd.{BioCmd}
use Rattle.geo_base.specs.declared.errno.Errno.{Errno}
use Rattle.geo_base.specs.declared.errno.Errno.TheVariants.{ENXIO, EIO}
use Rattle.geo_model.specs.declared.step.BioResult.{BioResult}
use Rattle.geo_model.specs.declared.step.BioResult.TheVariants as results
use Rattle.geo_model.specs.declared.step.DeviceResult.{DeviceResult}
use Rattle.geo_model.specs.declared.step.DeviceResult.TheVariants as devices
use Rattle.geo_model.specs.declared.step.Outcome.{Outcome}
use Rattle.geo_model.specs.declared.step.Outcome.TheVariants as outcomes
use Rattle.geo_model.specs.declared.step.Owner.{Owner}
use Rattle.geo_model.specs.declared.step.Owner.TheVariants as owners
use Rattle.geo_model.specs.declared.step.Phase.TheVariants as phases
use Rattle.geo_model.specs.declared.step.Reply.{Reply}
use Rattle.geo_model.specs.declared.step.Reply.TheVariants as replies
use Rattle.geo_model.specs.declared.step.Request.{Request}
use Rattle.geo_model.specs.Words.{is_read, is_flush}
use Rattle.geo_model.specs.Topology.{Topology, Geom, Provider, provider_at, geom_of_provider, provider_of_consumer, is_errored, note_started, provider_with_geom}
use Rattle.geo_model.specs.World.{World, Config, Nop, Bio, BioOf, Taste, Asked, ReadOut, ReadBack, bio_at, change_bio, children_of, is_busy, is_done, is_child_of, children_among, Disk}
use Rattle.geo_model.specs.declared.span.Piece.{Piece}
use Rattle.geo_model.specs.Place.{pieces, component, components, disk_of}

-- a new bio, phase Down
abbrev pub new_bio : {R : Type 0} → ℕ → BioCmd → ℕ → ℕ → List ℕ → ℕ → ℕ → Owner → BioOf R
new_bio number cmd offset len bytes source target owner = record {
  number = number;
  cmd = cmd;
  offset = offset;
  len = len;
  bytes = bytes;
  source = source;
  target = target;
  owner = owner;
  phase = phases.Down;
  result = None;
}

-- the world with a bio submitted from the consumer to the provider
abbrev pub submit : World → BioCmd → ℕ → ℕ → List ℕ → ℕ → ℕ → Owner → World
submit w cmd offset len bytes source target owner = record w {
  bios = w.bios ++ new_bio w.next_bio cmd offset len bytes source target owner ∷ [];
  next_bio = w.next_bio + 1;
}

-- the bio in phase Up with a result
abbrev pub up_with : {R : Type 0} → R → BioOf R → BioOf R
up_with result x = record x { phase = phases.Up; result = Some result }

-- Start

-- a piece, and the consumer through which it goes down
pub record PieceTarget : Type 0 where
  pub consumer : ℕ
  pub piece : Piece

-- the piece of a FLUSH, which has no bytes
abbrev pub empty_piece : Piece
empty_piece = record { child = 0; span = record { offset = 0; len = 0 }; at = 0 }

-- the pieces of a bio, each with its consumer; a FLUSH goes once through each consumer
abbrev pub piece_targets : {R : Type 0} → Config → Provider → BioOf R → List PieceTarget
piece_targets config p x =
    if is_flush x.cmd
    then map (λ c. record { consumer = c; piece = empty_piece }) (components config)
    else filter_map
    (λ s. option_map (λ c. record { consumer = c; piece = s }) (component config s.child))
    (pieces config p x.offset x.len)

-- the bytes of a bio that belong to a piece
abbrev pub bytes_of_piece : List ℕ → Piece → List ℕ
bytes_of_piece bytes s = take s.span.len (drop s.at bytes)

-- the child for piece k of a bio, where next is the number of the first child; the zero stands for a consumer that
-- isn't attached, which no component is
abbrev pub piece_child : {R : Type 0} → Topology Config → ℕ → BioOf R → ℕ → PieceTarget → BioOf R
piece_child t next x k target =
    new_bio (next + k) x.cmd target.piece.span.offset target.piece.span.len (bytes_of_piece x.bytes target.piece)
    target.consumer
    (unwrap_or (provider_of_consumer t target.consumer) 0)
    (owners.Child x.number k)

-- the children of a bio, one for each piece, in piece order
abbrev pub piece_children : {R : Type 0} → Topology Config → ℕ → BioOf R → List PieceTarget → List (BioOf R)
piece_children t next x targets = map (λ item. piece_child t next x item.0 item.1) (enumerate_from 0 targets)

-- the world with new bios at the end
abbrev pub with_children : World → List Bio → World
with_children w children = record w { bios = w.bios ++ children; next_bio = w.next_bio + length children }

-- the world with the children of a bio, and the bio Waiting
abbrev pub split_bio : World → Bio → List PieceTarget → World × Outcome
split_bio w x targets =
    let waiting : World = change_bio w x.number (λ y. record y { phase = phases.Waiting }) in
    (with_children waiting (piece_children w.topology w.next_bio x targets), outcomes.Split w.next_bio (length targets))

-- the bio bounced with an error
abbrev pub bounce : World → Bio → Errno → World × Outcome
bounce w x e = (change_bio w x.number (up_with (results.Failed e)), outcomes.Bounced)

-- whether a NOP geom with this FAIL fails its request of this number
abbrev pub is_hit : ℕ → ℕ → Bool
is_hit started fail = not (fail == 0) && (started % fail == 0)

-- at a NOP geom the started requests are counted, and by FAIL some of them bounce with EIO
abbrev pub start_at_nop : World → Bio → Provider → Geom Config → ℕ → World × Outcome
start_at_nop w x p g fail =
    let counted : World = record w { topology = note_started w.topology g.number } in
    if is_hit (g.started + 1) fail then bounce counted x EIO else split_bio counted x (piece_targets g.config p x)

-- the bio is sent to its disk
abbrev pub send : World → Bio → ℕ → World × Outcome
send w x disk = (change_bio w x.number (λ y. record y { phase = phases.Sent }), outcomes.Queued disk)

-- what a start does at a provider without an error
abbrev pub start_at : World → Bio → Provider → Geom Config → Config → World × Outcome
start_at w x p g (Nop below offset fail) = start_at_nop w x p g fail
start_at w x p g (Disk disk) = send w x disk
start_at w x p g config = split_bio w x (piece_targets config p x)

-- a bio to a provider that isn't there bounces; each bio of a sound world has its provider
abbrev pub start_found : World → Bio → Option (Provider × Geom Config) → World × Outcome
start_found w x None = bounce w x EIO
start_found w x (Some found) = start_at w x found.0 found.1 found.1.config

-- a bio goes down: it is bounced, sent to its disk, or split (g_io_request)
unfoldable pub start : World → Bio → World × Outcome
start w x =
    if is_errored w.topology x.target
    then bounce w x ENXIO
    else start_found w x (provider_with_geom w.topology x.target)

-- the same in two parts: the graph tells which way a bio goes, and the bios change by the way alone
pub data Way : Type 0 where
  -- back with an error; at a NOP geom, counted there
  Bounces : (e : Errno) → Way
  Fails : (geom : ℕ) → Way
  Sends : (disk : ℕ) → Way
  Splits : (targets : List PieceTarget) → Way
  Passes : (geom : ℕ) (targets : List PieceTarget) → Way

abbrev pub way_at : {R : Type 0} → BioOf R → Provider → Geom Config → Config → Way
way_at x p g (Nop below offset fail) =
    if is_hit (g.started + 1) fail then Fails g.number else Passes g.number (piece_targets g.config p x)
way_at x p g (Disk disk) = Sends disk
way_at x p g config = Splits (piece_targets config p x)

abbrev pub way_of : {R : Type 0} → Topology Config → BioOf R → Way
way_of t x =
    if is_errored t x.target
    then Bounces ENXIO
    else option_map_or (λ found. way_at x found.0 found.1 found.1.config) (provider_with_geom t x.target) (Bounces EIO)

abbrev pub start_by : World → Bio → Way → World × Outcome
start_by w x (Bounces e) = bounce w x e
start_by w x (Fails g) = bounce (record w { topology = note_started w.topology g }) x EIO
start_by w x (Sends disk) = send w x disk
start_by w x (Splits targets) = split_bio w x targets
start_by w x (Passes g targets) = split_bio (record w { topology = note_started w.topology g }) x targets

-- Take and Deliver

-- the disk of a provider, if it is one of a DISK geom
abbrev pub disk_at : Topology Config → ℕ → Option ℕ
disk_at t p = option_and_then (λ g. disk_of g.config) (geom_of_provider t p)

-- the disk to which a bio goes
abbrev pub disk_of_bio : World → Bio → Option ℕ
disk_of_bio w x = disk_at w.topology x.target

-- the Busy bio of a disk
abbrev pub busy_among : {R : Type 0} → Topology Config → List (BioOf R) → ℕ → Option (BioOf R)
busy_among t bios disk = find (λ x. is_busy x.phase && option_map_or (λ d. d == disk) (disk_at t x.target) false) bios

abbrev pub busy_bio : World → ℕ → Option Bio
busy_bio w disk = busy_among w.topology w.bios disk

-- the sector size of a provider; 512 where it isn't there, which a sound world rules out
abbrev pub sector_at : Topology Config → ℕ → ℕ
sector_at t p = option_map_or (λ x. x.sector) (provider_at t p) 512

-- the sector size of the provider to which a bio goes
abbrev pub sector_of_bio : World → Bio → ℕ
sector_of_bio w x = sector_at w.topology x.target

-- a bio as a request to its disk, in sectors of so many bytes
abbrev pub device_request : {R : Type 0} → ℕ → ℕ → BioOf R → Request
device_request disk sector x = record {
  disk = disk;
  cmd = x.cmd;
  first = x.offset / sector;
  count = x.len / sector;
  bytes = x.bytes;
}

abbrev pub request_of_bio : World → ℕ → Bio → Request
request_of_bio w disk x = device_request disk (sector_of_bio w x) x

-- a seat takes a bio for its disk
unfoldable pub take_bio : World → ℕ → ℕ → Bio → World × Outcome
take_bio w seat disk x =
    (change_bio w x.number (λ y. record y { phase = phases.Busy seat }), outcomes.Asked (request_of_bio w disk x))

-- whether a device's answer fits a bio to a provider with sectors of so many bytes
abbrev pub fits_bio : {R : Type 0} → ℕ → BioOf R → DeviceResult → Bool
fits_bio sector x (devices.Bytes bytes) = is_read x.cmd && (length bytes == x.len)
fits_bio sector x devices.Done = not (is_read x.cmd)
fits_bio sector x (devices.Failed done) =
    if is_read x.cmd || is_flush x.cmd then done == 0 else nat_le done (x.len / sector)

abbrev pub is_fitting : World → Bio → DeviceResult → Bool
is_fitting w x got = fits_bio (sector_of_bio w x) x got

-- a device's answer as the result of a bio
abbrev pub result_of_device : DeviceResult → BioResult
result_of_device (devices.Bytes bytes) = results.Bytes bytes
result_of_device devices.Done = results.Done
result_of_device (devices.Failed done) = results.Failed EIO

unfoldable pub deliver : World → Bio → DeviceResult → World × Outcome
deliver w x got = (change_bio w x.number (up_with (result_of_device got)), outcomes.Delivered)

-- Up

abbrev pub error_of_result : BioResult → Option Errno
error_of_result (results.Failed e) = Some e
error_of_result _ = None

abbrev pub bytes_of_result : BioResult → List ℕ
bytes_of_result (results.Bytes bytes) = bytes
bytes_of_result _ = []

-- the first error among results, in their order
abbrev pub first_failure : List BioResult → Option Errno
first_failure [] = None
first_failure (x ∷ xs) = option_map_or (λ e. Some e) (error_of_result x) (first_failure xs)

-- the result of a bio from those of its children in piece order: the first error, else the bytes joined
abbrev pub joined_result : BioCmd → List BioResult → BioResult
joined_result cmd xs =
    option_map_or
    (λ e. results.Failed e)
    (first_failure xs)
    (if is_read cmd then results.Bytes (flat_map bytes_of_result xs) else results.Done)

-- the results of the children of a bio, in piece order
abbrev pub child_results : World → ℕ → List BioResult
child_results w parent = map (λ x. unwrap_or x.result results.Done) (children_of w parent)

-- the world without the children of a bio
abbrev pub without_children : World → ℕ → World
without_children w parent = record w { bios = filter (λ x. not (is_child_of x.owner parent)) w.bios }

-- the world with the parent in phase Up with its result, and without its children
abbrev pub complete_parent : World → Bio → World
complete_parent w parent =
    let result : BioResult = joined_result parent.cmd (child_results w parent.number) in
    without_children (change_bio w parent.number (up_with result)) parent.number

-- whether each child of a bio is Done
abbrev pub are_children_done : List Bio → ℕ → Bool
are_children_done bios parent = list_all (λ x. is_done x.phase) (children_among bios parent)

abbrev pub is_complete : World → ℕ → Bool
is_complete w parent = are_children_done w.bios parent

-- a child goes up: it is Done, and its parent goes up where all children are
abbrev pub up_child : World → Bio → ℕ → World × Outcome
up_child w x parent =
    let gathered : World = change_bio w x.number (λ y. record y { phase = phases.Done }) in (
      (if is_complete gathered parent
          then option_map_or (λ y. complete_parent gathered y) (bio_at gathered parent) gathered
          else gathered),
      outcomes.Gathered parent (is_complete gathered parent),
    )

-- the world without a bio
abbrev pub without_bio : World → ℕ → World
without_bio w b = record w { bios = filter (λ x. not (x.number == b)) w.bios }

-- the taste has the result of its read
abbrev pub read_back : BioResult → Asked → Asked
read_back got (ReadOut kind) = ReadBack kind got
read_back got asked = asked

abbrev pub taste_with : BioResult → Option Taste → Option Taste
taste_with got None = None
taste_with got (Some t) = Some (record t { asked = read_back got t.asked })

abbrev pub up_taste : World → Bio → World × Outcome
up_taste w x = (
  record (without_bio w x.number) { taste = taste_with (unwrap_or x.result results.Done) w.taste },
  outcomes.TasteBack,
)

-- a result as the reply to a line
abbrev pub reply_of_result : BioResult → Reply
reply_of_result results.Done = replies.Ok
reply_of_result (results.Bytes bytes) = replies.Bytes bytes
reply_of_result (results.Failed e) = replies.Refused e

abbrev pub up_line : World → Bio → ℕ → World × Outcome
up_line w x line = (without_bio w x.number, outcomes.Replied line (reply_of_result (unwrap_or x.result results.Done)))

-- a bio goes up to its owner (g_io_deliver)
abbrev pub up_to : World → Bio → Owner → World × Outcome
up_to w x (owners.Line handle line) = up_line w x line
up_to w x owners.Taste = up_taste w x
up_to w x (owners.Child parent index) = up_child w x parent

unfoldable pub up : World → Bio → World × Outcome
up w x = up_to w x x.owner
