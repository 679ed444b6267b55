-- What holds of the bios of the mesh at every moment (g_bio(9)).
use Rattle.std.specs.Prelude.{◌≡◌, ◌≢◌, ℕ, ◌+◌, ◌%◌, ◌<◌, ◌≤◌, false, ◌||◌, List, length, map, Some, IsSome, IsSomeAnd, IsTrue, All, AllPairs, ⊤}
use Rattle.std.specs.List.{enumerate_from}
use Rattle.geo_base.specs.declared.request.BioCmd.{BioCmd}
use Rattle.geo_base.specs.declared.request.Counts.{Counts}
use Rattle.geo_base.specs.declared.limits.TheConstants.{MAX_REQUEST_BYTES}
use Rattle.geo_model.specs.declared.step.Owner.{Owner}
use Rattle.geo_model.specs.declared.step.Owner.TheVariants as owners
use Rattle.geo_model.specs.Words.{is_read, is_write, is_flush}
use Rattle.geo_model.specs.Topology.{Topology, Provider, Consumer, geom_at, provider_at, consumer_at}
use Rattle.geo_model.specs.Demand.{want}
use Rattle.geo_model.specs.World.{Config, Bio, bio_among, children_among, is_root, is_done, is_busy, is_sent, is_waiting}
use Rattle.geo_model.specs.Bios.{PieceTarget, piece_targets, bytes_of_piece, disk_at, are_children_done}

-- the range is one or more whole sectors, inside the provider and no longer than the longest request
pub record IsRangeInside (x : Bio) (p : Provider) : Type 0 where
  pub some_byte : 1 ≤ x.len
  pub not_long : x.len ≤ MAX_REQUEST_BYTES
  pub offset_whole : x.offset % p.sector ≡ 0
  pub len_whole : x.len % p.sector ≡ 0
  pub inside : x.offset + x.len ≤ p.size

-- the counts that a consumer needs for a command: a read count for READ, else a write count
abbrev pub HasCountFor : (ℕ → Counts) → Topology Config → Bio → Consumer → Type 0
HasCountFor granted t x c =
    (IsTrue (is_read x.cmd) → 0 < (want granted t c).r) × (is_read x.cmd ≡ false → 0 < (want granted t c).w)

-- a bio is from an attached consumer to that consumer's provider, with the count, the range and the bytes
pub record IsBioInOrder (granted : ℕ → Counts) (t : Topology Config) (x : Bio) : Type 0 where
  pub source : IsSomeAnd (consumer_at t x.source) (λ c. (c.provider ≡ Some x.target) × HasCountFor granted t x c)
  pub target : IsSomeAnd (provider_at t x.target) (λ p. is_flush x.cmd ≡ false → IsRangeInside x p)
  pub bytes : IsTrue (is_write x.cmd) → length x.bytes ≡ x.len

-- what a child is in its parent
pub record ChildShape : Type 0 where
  pub cmd : BioCmd
  pub index : ℕ
  pub source : ℕ
  pub offset : ℕ
  pub len : ℕ
  pub bytes : List ℕ

abbrev pub index_of : Owner → ℕ
index_of (owners.Child parent index) = index
index_of _ = 0

abbrev pub shape_of_child : Bio → ChildShape
shape_of_child x = record {
  cmd = x.cmd;
  index = index_of x.owner;
  source = x.source;
  offset = x.offset;
  len = x.len;
  bytes = x.bytes;
}

-- what the child for a piece of a bio is; its bytes are those of the parent at the piece's place
abbrev pub shape_of_piece : Bio → ℕ → PieceTarget → ChildShape
shape_of_piece x k target = record {
  cmd = x.cmd;
  index = k;
  source = target.consumer;
  offset = target.piece.span.offset;
  len = target.piece.span.len;
  bytes = bytes_of_piece x.bytes target.piece;
}

-- the children of a Waiting bio are its pieces in order, each index once
abbrev pub HasItsPieces : Topology Config → List Bio → Bio → Type 0
HasItsPieces t bios x =
    IsSomeAnd (provider_at t x.target) (λ p. IsSomeAnd (geom_at t p.geom) (λ g.
    map shape_of_child (children_among bios x.number)
    ≡ map (λ item. shape_of_piece x item.0 item.1) (enumerate_from 0 (piece_targets g.config p x))))

-- a bio owned by a child's place names a Waiting parent
abbrev pub HasItsParent : List Bio → Owner → Type 0
HasItsParent bios (owners.Child parent index) = IsSomeAnd (bio_among bios parent) (λ y. IsTrue (is_waiting y.phase))
HasItsParent bios owner = ⊤

pub record IsFamilyInOrder (t : Topology Config) (bios : List Bio) (x : Bio) : Type 0 where
  pub parent : HasItsParent bios x.owner
  pub pieces : IsTrue (is_waiting x.phase) → HasItsPieces t bios x
  pub not_complete : IsTrue (is_waiting x.phase) → are_children_done bios x.number ≡ false
  pub root : IsTrue (is_root x.owner) → is_done x.phase ≡ false

-- not both are Busy at one disk
abbrev pub NotBothBusy : Topology Config → Bio → Bio → Type 0
NotBothBusy t x y = IsTrue (is_busy x.phase) → IsTrue (is_busy y.phase) → (d : ℕ) → disk_at t x.target ≡ Some d
    → disk_at t y.target ≢ Some d

pub record DisksHold (t : Topology Config) (bios : List Bio) : Type 0 where
  pub at_disk : All (λ x. IsTrue (is_sent x.phase || is_busy x.phase) → IsSome (disk_at t x.target)) bios
  pub one_busy : AllPairs (NotBothBusy t) bios
