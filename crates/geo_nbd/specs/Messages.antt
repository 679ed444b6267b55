-- The heads of messages: what is read of their bytes, and the bytes that are written. A head whose magic number is
-- another isn't read.
use Rattle.std.specs.Prelude.{ℕ, ◌+◌, ◌==◌, List, ◌++◌, Option, Some, None, if◌then◌else◌}
use Rattle.byteorder.specs.Endian.{big_bytes}
use Rattle.geo_nbd.specs.declared.chunk.Chunk.{Chunk}
use Rattle.geo_nbd.specs.declared.option_head.OptionHead.{OptionHead}
use Rattle.geo_nbd.specs.declared.option_reply.OptionReply.{OptionReply}
use Rattle.geo_nbd.specs.declared.simple_reply.SimpleReply.{SimpleReply}
use Rattle.geo_nbd.specs.declared.request.Request.{Request}
use Rattle.geo_nbd.specs.declared.numbers.TheConstants.{OPTION_MAGIC, OPTION_REPLY_MAGIC, REQUEST_MAGIC, SIMPLE_REPLY_MAGIC, CHUNK_MAGIC, CHUNK_DONE, CHUNK_NONE, CHUNK_OFFSET_DATA, CHUNK_ERROR}
use Rattle.geo_nbd.specs.Fields.{number_at}

-- an option of a client, in front of its data: 16 bytes
abbrev pub option_head_of : List ℕ → Option OptionHead
option_head_of bytes =
    if number_at 8 0 bytes == OPTION_MAGIC
    then Some (record { option = number_at 4 8 bytes; len = number_at 4 12 bytes })
    else None

abbrev pub option_head_bytes : OptionHead → List ℕ
option_head_bytes x = big_bytes 8 OPTION_MAGIC ++ (big_bytes 4 x.option ++ big_bytes 4 x.len)

-- a reply to an option, in front of its data: 20 bytes
abbrev pub option_reply_of : List ℕ → Option OptionReply
option_reply_of bytes =
    if number_at 8 0 bytes == OPTION_REPLY_MAGIC
    then Some (record { option = number_at 4 8 bytes; kind = number_at 4 12 bytes; len = number_at 4 16 bytes })
    else None

abbrev pub option_reply_bytes : OptionReply → List ℕ
option_reply_bytes x =
    big_bytes 8 OPTION_REPLY_MAGIC ++ (big_bytes 4 x.option ++ (big_bytes 4 x.kind ++ big_bytes 4 x.len))

-- a request, in front of the bytes of a write: 28 bytes
abbrev pub request_of : List ℕ → Option Request
request_of bytes =
    if number_at 4 0 bytes == REQUEST_MAGIC
    then Some (record {
      flags = number_at 2 4 bytes;
      kind = number_at 2 6 bytes;
      cookie = number_at 8 8 bytes;
      offset = number_at 8 16 bytes;
      len = number_at 4 24 bytes;
    })
    else None

abbrev pub request_bytes : Request → List ℕ
request_bytes x =
    big_bytes 4 REQUEST_MAGIC ++ (big_bytes 2 x.flags ++ (big_bytes 2 x.kind
    ++ (big_bytes 8 x.cookie ++ (big_bytes 8 x.offset ++ big_bytes 4 x.len))))

-- a simple reply, in front of the bytes of a read: 16 bytes
abbrev pub simple_reply_of : List ℕ → Option SimpleReply
simple_reply_of bytes =
    if number_at 4 0 bytes == SIMPLE_REPLY_MAGIC
    then Some (record { error = number_at 4 4 bytes; cookie = number_at 8 8 bytes })
    else None

abbrev pub simple_reply_bytes : SimpleReply → List ℕ
simple_reply_bytes x = big_bytes 4 SIMPLE_REPLY_MAGIC ++ (big_bytes 4 x.error ++ big_bytes 8 x.cookie)

-- a chunk of a structured reply, in front of its payload: 20 bytes
abbrev pub chunk_of : List ℕ → Option Chunk
chunk_of bytes =
    if number_at 4 0 bytes == CHUNK_MAGIC
    then Some (record {
      flags = number_at 2 4 bytes;
      kind = number_at 2 6 bytes;
      cookie = number_at 8 8 bytes;
      len = number_at 4 16 bytes;
    })
    else None

abbrev pub chunk_bytes : Chunk → List ℕ
chunk_bytes x =
    big_bytes 4 CHUNK_MAGIC ++ (big_bytes 2 x.flags ++ (big_bytes 2 x.kind ++ (big_bytes 8 x.cookie
    ++ big_bytes 4 x.len)))

-- the structured replies that are one chunk: that all is done; so many bytes from an offset on, which follow; an error
-- without a text
abbrev pub done_chunk : ℕ → List ℕ
done_chunk cookie = chunk_bytes (record { flags = CHUNK_DONE; kind = CHUNK_NONE; cookie = cookie; len = 0 })

abbrev pub data_chunk : ℕ → ℕ → ℕ → List ℕ
data_chunk cookie offset count =
    chunk_bytes (record { flags = CHUNK_DONE; kind = CHUNK_OFFSET_DATA; cookie = cookie; len = 8 + count })
    ++ big_bytes 8 offset

abbrev pub error_chunk : ℕ → ℕ → List ℕ
error_chunk cookie error =
    chunk_bytes (record { flags = CHUNK_DONE; kind = CHUNK_ERROR; cookie = cookie; len = 6 })
    ++ (big_bytes 4 error ++ big_bytes 2 0)
