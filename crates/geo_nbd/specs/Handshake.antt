-- What a server answers in the handshake, and where the session stands then.
use Rattle.std.specs.Prelude.{ℕ, ◌+◌, ◌*◌, ◌==◌, nat_le, nat_lt, Bool, true, false, ◌&&◌, ◌||◌, List, [], ◌∷◌, ◌++◌, length, take, drop, replicate, flat_map, bytes_eq, Option, Some, None, Result, Ok, Err, if◌then◌else◌}
use Rattle.std.specs.List.{find}
use Rattle.byteorder.specs.Endian.{big_bytes}
use Rattle.geo_nbd.specs.declared.export.Export.{Export}
use Rattle.geo_nbd.specs.declared.option_head.OptionHead.{OptionHead}
use Rattle.geo_nbd.specs.declared.phase.Agreed.{Agreed}
use Rattle.geo_nbd.specs.declared.phase.Answer.{Answer}
use Rattle.geo_nbd.specs.declared.phase.Phase.{Phase}
use Rattle.geo_nbd.specs.declared.phase.Phase.TheVariants.{Options, Serving, Ended}
use Rattle.geo_nbd.specs.declared.numbers.TheConstants as numbers
use Rattle.geo_nbd.specs.Fields.{number_at}
use Rattle.geo_nbd.specs.Messages.{option_head_of, option_reply_bytes}

-- Flags and heads

-- the phase after the 4 bytes of a client's flags; a flag that isn't known ends the session
abbrev pub after_flags : List ℕ → Phase
after_flags bytes =
    let flags = number_at 4 0 bytes in
    if nat_lt (numbers.CLIENT_FIXED_NEWSTYLE + numbers.CLIENT_NO_ZEROES) flags
    then Ended
    else Options (record { no_zeroes = nat_le numbers.CLIENT_NO_ZEROES flags; structured = false })

-- an option that is answered, by its head: its data isn't too long to be read
abbrev pub short_enough : Option OptionHead → Option OptionHead
short_enough None = None
short_enough (Some head) = if nat_le head.len numbers.MAX_OPTION_BYTES then Some head else None

abbrev pub next_option : List ℕ → Option OptionHead
next_option bytes = short_enough (option_head_of bytes)

-- Exports

-- the first export that a name means; the empty name means each one
abbrev pub is_meant : List ℕ → Export → Bool
is_meant name e = (length name == 0) || bytes_eq e.name name

abbrev pub export_of : List Export → List ℕ → Option Export
export_of exports name = find (is_meant name) exports

-- how long the name is in the data of INFO and GO: its length, the name, a count, and so many numbers of 2 bytes
abbrev pub name_len : List ℕ → Option ℕ
name_len bytes =
    let n = number_at 4 0 bytes in
    if nat_le (n + 6) (length bytes) && (length bytes == n + 6 + 2 * number_at 2 (n + 4) bytes) then Some n else None

-- the export that the data of INFO and GO names, or the error
abbrev pub known : Option Export → Result Export ℕ
known None = Err numbers.REPLY_ERROR_UNKNOWN
known (Some e) = Ok e

abbrev pub named_in : List Export → List ℕ → Option ℕ → Result Export ℕ
named_in exports bytes None = Err numbers.REPLY_ERROR_INVALID
named_in exports bytes (Some n) = known (export_of exports (take n (drop 4 bytes)))

abbrev pub export_asked : List Export → List ℕ → Result Export ℕ
export_asked exports bytes = named_in exports bytes (name_len bytes)

-- Replies

-- a reply of this kind to an option, with its data
abbrev pub reply : ℕ → ℕ → List ℕ → List ℕ
reply option kind bytes = option_reply_bytes (record { option = option; kind = kind; len = length bytes }) ++ bytes

abbrev pub ack : ℕ → List ℕ
ack option = reply option numbers.REPLY_ACK []

-- an export by its name
abbrev pub server_reply : Export → List ℕ
server_reply e = reply numbers.OPTION_LIST numbers.REPLY_SERVER (big_bytes 4 (length e.name) ++ e.name)

-- its size and flags, and its block sizes
abbrev pub export_info : Export → List ℕ
export_info e = big_bytes 2 numbers.INFO_EXPORT ++ (big_bytes 8 e.size ++ big_bytes 2 e.flags)

abbrev pub block_info : Export → List ℕ
block_info e =
    big_bytes 2 numbers.INFO_BLOCK_SIZE
    ++ (big_bytes 4 e.sector ++ (big_bytes 4 numbers.PREFERRED_BLOCK ++ big_bytes 4 numbers.MAX_BLOCK))

abbrev pub described : ℕ → Export → List ℕ
described option e =
    reply option numbers.REPLY_INFO (export_info e)
    ++ (reply option numbers.REPLY_INFO (block_info e) ++ ack option)

-- Answers

-- these bytes are sent, and the next option may come
abbrev pub stay : Agreed → List ℕ → Answer
stay agreed bytes = record { sent = bytes; next = Options agreed }

-- EXPORT_NAME: its size and flags, and 124 zeros unless they were done without
abbrev pub zeroes : Agreed → List ℕ
zeroes agreed = if agreed.no_zeroes then [] else replicate 124 0

abbrev pub by_name : Agreed → Option Export → Answer
by_name agreed None = record { sent = []; next = Ended }
by_name agreed (Some e) = record {
  sent = big_bytes 8 e.size ++ (big_bytes 2 e.flags ++ zeroes agreed);
  next = Serving e agreed.structured;
}

-- ABORT
abbrev pub aborted : Answer
aborted = record { sent = ack numbers.OPTION_ABORT; next = Ended }

-- LIST and STRUCTURED_REPLY have no data
abbrev pub listed : List Export → Agreed → List ℕ → Answer
listed exports agreed [] = stay agreed (flat_map server_reply exports ++ ack numbers.OPTION_LIST)
listed exports agreed (byte ∷ bytes) = stay agreed (reply numbers.OPTION_LIST numbers.REPLY_ERROR_INVALID [])

abbrev pub structured : Agreed → List ℕ → Answer
structured agreed [] = stay (record agreed { structured = true }) (ack numbers.OPTION_STRUCTURED_REPLY)
structured agreed (byte ∷ bytes) =
    stay agreed (reply numbers.OPTION_STRUCTURED_REPLY numbers.REPLY_ERROR_INVALID [])

-- INFO and GO
abbrev pub informed : Agreed → Result Export ℕ → Answer
informed agreed (Ok e) = stay agreed (described numbers.OPTION_INFO e)
informed agreed (Err error) = stay agreed (reply numbers.OPTION_INFO error [])

abbrev pub gone : Agreed → Result Export ℕ → Answer
gone agreed (Ok e) = record { sent = described numbers.OPTION_GO e; next = Serving e agreed.structured }
gone agreed (Err error) = stay agreed (reply numbers.OPTION_GO error [])

-- the answer to an option with its data
abbrev pub answer : List Export → Agreed → ℕ → List ℕ → Answer
answer exports agreed option bytes =
    if option == numbers.OPTION_EXPORT_NAME then by_name agreed (export_of exports bytes)
    else (if option == numbers.OPTION_ABORT then aborted
    else (if option == numbers.OPTION_LIST then listed exports agreed bytes
    else (if option == numbers.OPTION_INFO then informed agreed (export_asked exports bytes)
    else (if option == numbers.OPTION_GO then gone agreed (export_asked exports bytes)
    else (if option == numbers.OPTION_STRUCTURED_REPLY then structured agreed bytes
    else stay agreed (reply option numbers.REPLY_ERROR_UNSUPPORTED []))))))
