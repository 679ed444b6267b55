-- Worked examples: bytes of sessions, each checked by computation.
use Rattle.std.specs.Prelude.{◌≡◌, ℕ, List, [], ◌∷◌, ◌++◌, replicate, Some, None, false, true, codes}
use Rattle.geo_nbd.specs.declared.export.Export.{Export}
use Rattle.geo_nbd.specs.declared.phase.Agreed.{Agreed}
use Rattle.geo_nbd.specs.declared.phase.Phase.TheVariants.{Options, Serving, Ended}
use Rattle.geo_nbd.specs.declared.numbers.TheConstants.{GREETING, OPTION_ABORT, OPTION_EXPORT_NAME, OPTION_GO, OPTION_LIST, OPTION_STRUCTURED_REPLY}
use Rattle.geo_nbd.specs.Handshake.{after_flags, answer, next_option}
use Rattle.geo_nbd.specs.Messages.{data_chunk, done_chunk, error_chunk, request_of, simple_reply_bytes}

-- a server that exports 1 MiB as `stripe/s` and 64 KiB as `ada0`, and a client that wants no zeros
abbrev pub stripe : Export
stripe = record { name = codes "stripe/s"; size = 1048576; sector = 512; flags = 109 }

abbrev pub ada0 : Export
ada0 = record { name = codes "ada0"; size = 65536; sector = 4096; flags = 109 }

abbrev pub exports : List Export
exports = stripe ∷ ada0 ∷ []

abbrev pub fresh : Agreed
fresh = record { no_zeroes = true; structured = false }

-- the front of a reply to an option
abbrev pub magic : List ℕ
magic = 0 ∷ 3 ∷ 232 ∷ 137 ∷ 4 ∷ 85 ∷ 101 ∷ 169 ∷ []

-- the greeting, the flags of clients, and heads of options
pub record WorkedBeginnings : Type 0 where
  pub greeting : GREETING ≡ codes "NBDMAGIC" ++ codes "IHAVEOPT" ++ 0 ∷ 3 ∷ []
  -- a client without flags, one with both, and one with another flag
  pub plain : after_flags (0 ∷ 0 ∷ 0 ∷ 0 ∷ []) ≡ Options (record { no_zeroes = false; structured = false })
  pub both_flags : after_flags (0 ∷ 0 ∷ 0 ∷ 3 ∷ []) ≡ Options (record { no_zeroes = true; structured = false })
  pub other_flag : after_flags (0 ∷ 0 ∷ 0 ∷ 4 ∷ []) ≡ Ended
  -- heads of options: GO with 6 bytes of data; 4,353 bytes; 4 GiB; another magic number
  pub go_head :
      next_option (codes "IHAVEOPT" ++ 0 ∷ 0 ∷ 0 ∷ 7 ∷ 0 ∷ 0 ∷ 0 ∷ 6 ∷ []) ≡ Some (record { option = 7; len = 6 })
  pub too_long : next_option (codes "IHAVEOPT" ++ 0 ∷ 0 ∷ 0 ∷ 7 ∷ 0 ∷ 0 ∷ 17 ∷ 1 ∷ []) ≡ None
  pub far_too_long : next_option (codes "IHAVEOPT" ++ 0 ∷ 0 ∷ 0 ∷ 99 ∷ 255 ∷ 255 ∷ 255 ∷ 255 ∷ []) ≡ None
  pub no_option : next_option (codes "IHAVEOPS" ++ 0 ∷ 0 ∷ 0 ∷ 7 ∷ 0 ∷ 0 ∷ 0 ∷ 6 ∷ []) ≡ None

-- options
pub record WorkedOptions : Type 0 where
  pub structured_replies :
      answer exports fresh OPTION_STRUCTURED_REPLY []
      ≡ record {
        sent = magic ++ 0 ∷ 0 ∷ 0 ∷ 8 ∷ 0 ∷ 0 ∷ 0 ∷ 1 ∷ 0 ∷ 0 ∷ 0 ∷ 0 ∷ [];
        next = Options (record { no_zeroes = true; structured = true });
      }
  pub list :
      answer exports fresh OPTION_LIST []
      ≡ record {
        sent = magic ++ 0 ∷ 0 ∷ 0 ∷ 3 ∷ 0 ∷ 0 ∷ 0 ∷ 2 ∷ 0 ∷ 0 ∷ 0 ∷ 12 ∷ 0 ∷ 0 ∷ 0 ∷ 8 ∷ [] ++ codes "stripe/s"
            ++ magic ++ 0 ∷ 0 ∷ 0 ∷ 3 ∷ 0 ∷ 0 ∷ 0 ∷ 2 ∷ 0 ∷ 0 ∷ 0 ∷ 8 ∷ 0 ∷ 0 ∷ 0 ∷ 4 ∷ [] ++ codes "ada0"
            ++ magic ++ 0 ∷ 0 ∷ 0 ∷ 3 ∷ 0 ∷ 0 ∷ 0 ∷ 1 ∷ 0 ∷ 0 ∷ 0 ∷ 0 ∷ [];
        next = Options fresh;
      }
  -- LIST with data is answered ERR_INVALID
  pub list_with_data :
      answer exports fresh OPTION_LIST (0 ∷ [])
      ≡ record {
        sent = magic ++ 0 ∷ 0 ∷ 0 ∷ 3 ∷ 128 ∷ 0 ∷ 0 ∷ 3 ∷ 0 ∷ 0 ∷ 0 ∷ 0 ∷ [];
        next = Options fresh;
      }
  -- GO to `ada0`, which asks for the block sizes: the export, the block sizes, and that this is all
  pub go :
      answer exports fresh OPTION_GO (0 ∷ 0 ∷ 0 ∷ 4 ∷ [] ++ codes "ada0" ++ 0 ∷ 1 ∷ 0 ∷ 3 ∷ [])
      ≡ record {
        sent = magic ++ 0 ∷ 0 ∷ 0 ∷ 7 ∷ 0 ∷ 0 ∷ 0 ∷ 3 ∷ 0 ∷ 0 ∷ 0 ∷ 12 ∷ []
            ++ 0 ∷ 0 ∷ 0 ∷ 0 ∷ 0 ∷ 0 ∷ 0 ∷ 1 ∷ 0 ∷ 0 ∷ 0 ∷ 109 ∷ []
            ++ magic ++ 0 ∷ 0 ∷ 0 ∷ 7 ∷ 0 ∷ 0 ∷ 0 ∷ 3 ∷ 0 ∷ 0 ∷ 0 ∷ 14 ∷ []
            ++ 0 ∷ 3 ∷ 0 ∷ 0 ∷ 16 ∷ 0 ∷ 0 ∷ 0 ∷ 16 ∷ 0 ∷ 0 ∷ 0 ∷ 128 ∷ 0 ∷ []
            ++ magic ++ 0 ∷ 0 ∷ 0 ∷ 7 ∷ 0 ∷ 0 ∷ 0 ∷ 1 ∷ 0 ∷ 0 ∷ 0 ∷ 0 ∷ [];
        next = Serving ada0 false;
      }
  -- GO to a name that isn't there, and with a name that goes past the data
  pub go_nowhere :
      answer exports fresh OPTION_GO (0 ∷ 0 ∷ 0 ∷ 4 ∷ [] ++ codes "ada1" ++ 0 ∷ 0 ∷ [])
      ≡ record {
        sent = magic ++ 0 ∷ 0 ∷ 0 ∷ 7 ∷ 128 ∷ 0 ∷ 0 ∷ 6 ∷ 0 ∷ 0 ∷ 0 ∷ 0 ∷ [];
        next = Options fresh;
      }
  pub go_past :
      answer exports fresh OPTION_GO (255 ∷ 255 ∷ 255 ∷ 255 ∷ [] ++ codes "ada0" ++ 0 ∷ 0 ∷ [])
      ≡ record {
        sent = magic ++ 0 ∷ 0 ∷ 0 ∷ 7 ∷ 128 ∷ 0 ∷ 0 ∷ 3 ∷ 0 ∷ 0 ∷ 0 ∷ 0 ∷ [];
        next = Options fresh;
      }
  -- EXPORT_NAME with the empty name, of a client that wants the zeros; and of a name that isn't there
  pub by_empty_name :
      answer exports (record { no_zeroes = false; structured = false }) OPTION_EXPORT_NAME []
      ≡ record {
        sent = 0 ∷ 0 ∷ 0 ∷ 0 ∷ 0 ∷ 16 ∷ 0 ∷ 0 ∷ 0 ∷ 109 ∷ replicate 124 0;
        next = Serving stripe false;
      }
  pub by_no_name : answer exports fresh OPTION_EXPORT_NAME (codes "ada1") ≡ record { sent = []; next = Ended }
  pub abort :
      answer exports fresh OPTION_ABORT []
      ≡ record { sent = magic ++ 0 ∷ 0 ∷ 0 ∷ 2 ∷ 0 ∷ 0 ∷ 0 ∷ 1 ∷ 0 ∷ 0 ∷ 0 ∷ 0 ∷ []; next = Ended }
  -- STARTTLS isn't supported
  pub tls :
      answer exports fresh 5 []
      ≡ record {
        sent = magic ++ 0 ∷ 0 ∷ 0 ∷ 5 ∷ 128 ∷ 0 ∷ 0 ∷ 1 ∷ 0 ∷ 0 ∷ 0 ∷ 0 ∷ [];
        next = Options fresh;
      }

-- requests and replies
pub record WorkedReplies : Type 0 where
  -- a READ of 512 bytes from 4,096 on
  pub read :
      request_of (37 ∷ 96 ∷ 149 ∷ 19 ∷ 0 ∷ 0 ∷ 0 ∷ 0 ∷ 1 ∷ 2 ∷ 3 ∷ 4 ∷ 5 ∷ 6 ∷ 7 ∷ 8 ∷ 0 ∷ 0 ∷ 0 ∷ 0 ∷ 0 ∷ 0 ∷ 16 ∷ 0 ∷ 0
      ∷ 0 ∷ 2 ∷ 0 ∷ [])
      ≡ Some (record { flags = 0; kind = 0; cookie = 72623859790382856; offset = 4096; len = 512 })
  pub done : simple_reply_bytes (record { error = 0; cookie = 258 })
      ≡ 103 ∷ 68 ∷ 102 ∷ 152 ∷ 0 ∷ 0 ∷ 0 ∷ 0 ∷ 0 ∷ 0 ∷ 0 ∷ 0 ∷ 0 ∷ 0 ∷ 1 ∷ 2 ∷ []
  pub bytes_from : data_chunk 258 4096 512
      ≡ 102 ∷ 142 ∷ 51 ∷ 239 ∷ 0 ∷ 1 ∷ 0 ∷ 1 ∷ 0 ∷ 0 ∷ 0 ∷ 0 ∷ 0 ∷ 0 ∷ 1 ∷ 2 ∷ 0 ∷ 0 ∷ 2 ∷ 8 ∷ 0 ∷ 0 ∷ 0 ∷ 0 ∷ 0 ∷ 0
      ∷ 16 ∷ 0 ∷ []
  pub nothing_more : done_chunk 258
      ≡ 102 ∷ 142 ∷ 51 ∷ 239 ∷ 0 ∷ 1 ∷ 0 ∷ 0 ∷ 0 ∷ 0 ∷ 0 ∷ 0 ∷ 0 ∷ 0 ∷ 1 ∷ 2 ∷ 0 ∷ 0 ∷ 0 ∷ 0 ∷ []
  pub invalid : error_chunk 258 22
      ≡ 102 ∷ 142 ∷ 51 ∷ 239 ∷ 0 ∷ 1 ∷ 128 ∷ 1 ∷ 0 ∷ 0 ∷ 0 ∷ 0 ∷ 0 ∷ 0 ∷ 1 ∷ 2 ∷ 0 ∷ 0 ∷ 0 ∷ 6 ∷ 0 ∷ 0 ∷ 0 ∷ 22 ∷ 0
      ∷ 0 ∷ []
