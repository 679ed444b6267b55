-- What is written is read back.
use Rattle.std.specs.Prelude.{◌≡◌, ◌<◌, ◌^◌, Some}
use Rattle.geo_nbd.specs.declared.chunk.Chunk.{Chunk}
use Rattle.geo_nbd.specs.declared.option_head.OptionHead.{OptionHead}
use Rattle.geo_nbd.specs.declared.option_reply.OptionReply.{OptionReply}
use Rattle.geo_nbd.specs.declared.simple_reply.SimpleReply.{SimpleReply}
use Rattle.geo_nbd.specs.declared.request.Request.{Request}
use Rattle.geo_nbd.specs.Messages.{option_head_of, option_head_bytes, option_reply_of, option_reply_bytes, request_of, request_bytes, simple_reply_of, simple_reply_bytes, chunk_of, chunk_bytes}

-- the numbers of a head fit their fields
pub record OptionHeadFits (x : OptionHead) : Type 0 where
  pub option : x.option < 2 ^ 32
  pub len : x.len < 2 ^ 32

pub record OptionReplyFits (x : OptionReply) : Type 0 where
  pub option : x.option < 2 ^ 32
  pub kind : x.kind < 2 ^ 32
  pub len : x.len < 2 ^ 32

pub record RequestFits (x : Request) : Type 0 where
  pub flags : x.flags < 2 ^ 16
  pub kind : x.kind < 2 ^ 16
  pub cookie : x.cookie < 2 ^ 64
  pub offset : x.offset < 2 ^ 64
  pub len : x.len < 2 ^ 32

pub record SimpleReplyFits (x : SimpleReply) : Type 0 where
  pub error : x.error < 2 ^ 32
  pub cookie : x.cookie < 2 ^ 64

pub record ChunkFits (x : Chunk) : Type 0 where
  pub flags : x.flags < 2 ^ 16
  pub kind : x.kind < 2 ^ 16
  pub cookie : x.cookie < 2 ^ 64
  pub len : x.len < 2 ^ 32

-- each such head comes back
abbrev pub OptionHeadsComeBack : Type 0
OptionHeadsComeBack = (x : OptionHead) → OptionHeadFits x → option_head_of (option_head_bytes x) ≡ Some x

abbrev pub OptionRepliesComeBack : Type 0
OptionRepliesComeBack = (x : OptionReply) → OptionReplyFits x → option_reply_of (option_reply_bytes x) ≡ Some x

abbrev pub RequestsComeBack : Type 0
RequestsComeBack = (x : Request) → RequestFits x → request_of (request_bytes x) ≡ Some x

abbrev pub SimpleRepliesComeBack : Type 0
SimpleRepliesComeBack = (x : SimpleReply) → SimpleReplyFits x → simple_reply_of (simple_reply_bytes x) ≡ Some x

abbrev pub ChunksComeBack : Type 0
ChunksComeBack = (x : Chunk) → ChunkFits x → chunk_of (chunk_bytes x) ≡ Some x
