-- The leaves and the result of a bio, read from the log alone, and what an accepted bio covers (g_bio(9)).
use Rattle.geo_base.specs.declared.errno.Errno.{Errno}
use Rattle.std.specs.Prelude.{◌≡◌, ℕ, zero, suc, ◌+◌, ◌*◌, ◌/◌, ◌==◌, Bool, false, not, List, [], ◌∷◌, length, map, flat_map, find, Option, Some, None, All, IsTrue, option_and_then, option_map, if◌then◌else◌}
use Rattle.std.specs.List.{range_with_len}
use Rattle.std.specs.Option.{option_map_or, option_to_list}
use Rattle.geo_base.specs.declared.request.BioCmd.{BioCmd}
use Rattle.geo_base.specs.declared.errno.Errno.TheVariants.{ENXIO, EIO}
use Rattle.geo_model.specs.declared.step.BioResult.{BioResult}
use Rattle.geo_model.specs.declared.step.BioResult.TheVariants as results
use Rattle.geo_model.specs.declared.step.DeviceResult.{DeviceResult}
use Rattle.geo_model.specs.declared.step.Entry.{Entry}
use Rattle.geo_model.specs.declared.step.Outcome.{Outcome}
use Rattle.geo_model.specs.declared.step.Outcome.TheVariants as outcomes
use Rattle.geo_model.specs.declared.step.Request.{Request}
use Rattle.geo_model.specs.declared.step.Step.{Step}
use Rattle.geo_model.specs.declared.step.Step.TheVariants as steps
use Rattle.geo_model.specs.Words.{same_cmd, is_write, is_flush, ◌>>=◌}
use Rattle.geo_model.specs.Topology.{Provider, is_errored}
use Rattle.geo_model.specs.World.{World, Bio, bio_at}
use Rattle.geo_model.specs.Place.{DiskSector, flat, ends}
use Rattle.geo_model.specs.Bios.{result_of_device, joined_result}
use Rattle.geo_model.specs.Log.{Moment}

-- whether a step is the Start, the Take, the Deliver, the Up of a bio

abbrev pub is_start_of : ℕ → Step → Bool
is_start_of b (steps.Start x) = x == b
is_start_of b _ = false

abbrev pub is_take_of : ℕ → Step → Bool
is_take_of b (steps.Take disk x) = x == b
is_take_of b _ = false

abbrev pub is_deliver_of : ℕ → Step → Bool
is_deliver_of b (steps.Deliver x got) = x == b
is_deliver_of b _ = false

abbrev pub is_up_of : ℕ → Step → Bool
is_up_of b (steps.Up x) = x == b
is_up_of b _ = false

-- the Start of a bio
abbrev pub start_moment : List Moment → ℕ → Option Moment
start_moment history b = find (λ m. is_start_of b m.entry.step) history

-- the request that the Take of a bio asked for
abbrev pub request_in : Outcome → Option Request
request_in (outcomes.Asked request) = Some request
request_in _ = None

abbrev pub request_of : List Entry → ℕ → Option Request
request_of log b = option_and_then (λ e. request_in e.outcome) (find (λ e. is_take_of b e.step) log)

-- what the device answered in the Deliver of a bio
abbrev pub device_answer_in : Step → Option DeviceResult
device_answer_in (steps.Deliver x got) = Some got
device_answer_in _ = None

abbrev pub device_answer_of : List Entry → ℕ → Option DeviceResult
device_answer_of log b = option_and_then (λ e. device_answer_in e.step) (find (λ e. is_deliver_of b e.step) log)

-- the log of a history
abbrev pub entries_of : List Moment → List Entry
entries_of history = map (λ m. m.entry) history

-- the children that a Split made, in order
abbrev pub children_in : Outcome → List ℕ
children_in (outcomes.Split first count) = range_with_len first count
children_in _ = []

-- a bio that went to a disk: its request and what the device answered
pub record Leaf : Type 0 where
  pub bio : ℕ
  pub request : Request
  pub got : DeviceResult

-- the leaf that a queued bio is, once it was taken and delivered
abbrev pub queued_leaf : List Entry → ℕ → Option Leaf
queued_leaf log b = do
  request ← request_of log b
  got ← device_answer_of log b
  Some (record { bio = b; request = request; got = got })

-- the leaves by the outcome of a Start: none where it bounced, the bio itself where it was queued, those of its
-- children where it was split
abbrev pub leaves_by : (ℕ → List Leaf) → List Entry → ℕ → Outcome → List Leaf
leaves_by below log b outcomes.Bounced = []
leaves_by below log b (outcomes.Queued disk) = option_to_list (queued_leaf log b)
leaves_by below log b (outcomes.Split first count) = flat_map below (range_with_len first count)
leaves_by below log b _ = []

-- the leaves of a bio over so many levels
abbrev pub leaves_within : ℕ → List Moment → ℕ → List Leaf
leaves_within zero history b = []
leaves_within (suc levels) history b =
    option_map_or
    (λ m. leaves_by (leaves_within levels history) (entries_of history) b m.entry.outcome)
    (start_moment history b)
    []

abbrev pub leaves : List Moment → ℕ → List Leaf
leaves history b = leaves_within (length history) history b

-- the result of a bounced bio: ENXIO where its provider carried an error before its Start, else EIO
abbrev pub bounce_errno : World → Option Bio → Errno
bounce_errno before None = EIO
bounce_errno before (Some x) = if is_errored before.topology x.target then ENXIO else EIO

abbrev pub bounced_result : World → ℕ → BioResult
bounced_result before b = results.Failed (bounce_errno before (bio_at before b))

-- all of the results, if each is there
abbrev pub all_there : List (Option BioResult) → Option (List BioResult)
all_there [] = Some []
all_there (x ∷ xs) = do
  first ← x
  others ← all_there xs
  Some (first ∷ others)

-- the command of a bio, in the world before its Start
abbrev pub cmd_before : World → ℕ → Option BioCmd
cmd_before before b = option_map (λ x. x.cmd) (bio_at before b)

-- the result of a bio by the outcome of its Start, from the results of its children in order
abbrev pub result_by : List Moment → ℕ → World → Outcome → List (Option BioResult) → Option BioResult
result_by history b before outcomes.Bounced of_children = Some (bounced_result before b)
result_by history b before (outcomes.Queued disk) of_children =
    option_map result_of_device (device_answer_of (entries_of history) b)
result_by history b before (outcomes.Split first count) of_children = do
  cmd ← cmd_before before b
  found ← all_there of_children
  Some (joined_result cmd found)
result_by history b before _ of_children = None

-- the result of a bio, over so many levels; None where it isn't finished
abbrev pub result_within : ℕ → List Moment → ℕ → Option BioResult
result_within zero history b = None
result_within (suc levels) history b = do
  m ← start_moment history b
  result_by history b m.before m.entry.outcome (map (result_within levels history) (children_in m.entry.outcome))

abbrev pub result_of : List Moment → ℕ → Option BioResult
result_of history b = result_within (length history) history b

-- Covers

-- the sectors of a request
abbrev pub sectors_of_request : Request → List DiskSector
sectors_of_request q = map (λ s. record { disk = q.disk; sector = s }) (range_with_len q.first q.count)

-- the offsets of the sectors of a range, in rising order
abbrev pub sector_offsets : ℕ → ℕ → ℕ → List ℕ
sector_offsets sector offset len = map (λ k. offset + k * sector) (range_with_len 0 (len / sector))

-- a bio went exactly to the sectors of its flat map, in order, with its command and its bytes
pub record CoversRange (w : World) (x : Bio) (p : Provider) (found : List Leaf) : Type 0 where
  pub sectors : map (λ s. Some s) (flat_map (λ leaf. sectors_of_request leaf.request) found)
      ≡ map (flat w.topology p.number) (sector_offsets p.sector x.offset x.len)
  pub commands : All (λ leaf. IsTrue (same_cmd leaf.request.cmd x.cmd)) found
  pub bytes : IsTrue (is_write x.cmd) → flat_map (λ leaf. leaf.request.bytes) found ≡ x.bytes

-- a FLUSH went once to each disk reached downwards, in component order, with its command
pub record CoversEnds (w : World) (x : Bio) (p : Provider) (found : List Leaf) : Type 0 where
  pub disks : map (λ leaf. leaf.request.disk) found ≡ ends w.topology p.number
  pub commands : All (λ leaf. IsTrue (same_cmd leaf.request.cmd x.cmd)) found

-- w is the world of the acceptance of the bio
pub record Covers (w : World) (history : List Moment) (x : Bio) (p : Provider) : Type 0 where
  pub range : IsTrue (not (is_flush x.cmd)) → CoversRange w x p (leaves history x.number)
  pub flush : IsTrue (is_flush x.cmd) → CoversEnds w x p (leaves history x.number)
