-- The commands of a script, by their words.
use Rattle.std.specs.Prelude.{List, [], ◌∷◌, ℕ, Result, codes}
use Rattle.geo_model.specs.declared.command.Cause.{Cause}
use Rattle.geo_model.specs.declared.command.Command.{Command}
use Rattle.geo_model.specs.declared.command.Command.TheVariants as commands
use Rattle.geo_model.specs.ScriptWords.{◌>>=◌, Words, short_name, long_name, any_number, record_id, record_count, record_place, stripe_size, counts_word, runs_words, class_word, long_names, at_end, by_word}

-- Commands

abbrev pub open_words : Words → Result Command Cause
open_words ws = do
  h ← short_name ws
  p ← long_name h.1
  c ← counts_word p.1
  at_end (commands.Open h.0 p.0 c.0) c.1

abbrev pub close_words : Words → Result Command Cause
close_words ws = do
  h ← short_name ws
  at_end (commands.Close h.0) h.1

abbrev pub read_words : Words → Result Command Cause
read_words ws = do
  h ← short_name ws
  offset ← any_number h.1
  len ← any_number offset.1
  at_end (commands.Read h.0 offset.0 len.0) len.1

abbrev pub write_words : Words → Result Command Cause
write_words ws = do
  h ← short_name ws
  offset ← any_number h.1
  bytes ← runs_words offset.1
  at_end (commands.Write h.0 offset.0 bytes.0) bytes.1

abbrev pub delete_words : Words → Result Command Cause
delete_words ws = do
  h ← short_name ws
  offset ← any_number h.1
  len ← any_number offset.1
  at_end (commands.Delete h.0 offset.0 len.0) len.1

abbrev pub flush_words : Words → Result Command Cause
flush_words ws = do
  h ← short_name ws
  at_end (commands.Flush h.0) h.1

abbrev pub insert_words : Words → Result Command Cause
insert_words ws = do
  disk ← short_name ws
  at_end (commands.Insert disk.0) disk.1

abbrev pub pull_words : Words → Result Command Cause
pull_words ws = do
  disk ← short_name ws
  at_end (commands.Pull disk.0) disk.1

abbrev pub nop_words : Words → Result Command Cause
nop_words ws = do
  p ← long_name ws
  offset ← any_number p.1
  size ← any_number offset.1
  fail ← any_number size.1
  at_end (commands.Nop p.0 offset.0 size.0 fail.0) fail.1

abbrev pub concat_words : Words → Result Command Cause
concat_words ws = do
  name ← short_name ws
  ps ← long_names name.1
  at_end (commands.Concat name.0 ps.0) ps.1

abbrev pub stripe_words : Words → Result Command Cause
stripe_words ws = do
  name ← short_name ws
  stripe ← stripe_size name.1
  ps ← long_names stripe.1
  at_end (commands.Stripe name.0 stripe.0 ps.0) ps.1

abbrev pub append_words : Words → Result Command Cause
append_words ws = do
  name ← short_name ws
  p ← long_name name.1
  at_end (commands.Append name.0 p.0) p.1

abbrev pub destroy_words : Words → Result Command Cause
destroy_words ws = do
  class ← class_word ws
  geom ← long_name class.1
  at_end (commands.Destroy class.0 geom.0) geom.1

abbrev pub label_words : Words → Result Command Cause
label_words ws = do
  h ← short_name ws
  name ← short_name h.1
  at_end (commands.Label h.0 name.0) name.1

abbrev pub relabel_words : Words → Result Command Cause
relabel_words ws = do
  h ← short_name ws
  name ← short_name h.1
  at_end (commands.Relabel h.0 name.0) name.1

abbrev pub mark_concat_words : List ℕ → Words → Result Command Cause
mark_concat_words h ws = do
  name ← short_name ws
  id ← record_id name.1
  place ← record_place id.1
  count ← record_count place.1
  at_end (commands.MarkConcat h name.0 id.0 place.0 count.0) count.1

abbrev pub mark_stripe_words : List ℕ → Words → Result Command Cause
mark_stripe_words h ws = do
  name ← short_name ws
  id ← record_id name.1
  place ← record_place id.1
  count ← record_count place.1
  stripe ← stripe_size count.1
  at_end (commands.MarkStripe h name.0 id.0 place.0 count.0 stripe.0) stripe.1

abbrev pub mark_words : Words → Result Command Cause
mark_words ws = do
  h ← short_name ws
  by_word ((codes "concat", mark_concat_words h.0) ∷ (codes "stripe", mark_stripe_words h.0) ∷ []) h.1

-- the commands, by their names
abbrev pub command_table : List (List ℕ × (Words → Result Command Cause))
command_table =
    (codes "open", open_words) ∷ (codes "close", close_words) ∷ (codes "read", read_words)
    ∷ (codes "write", write_words) ∷ (codes "delete", delete_words) ∷ (codes "flush", flush_words)
    ∷ (codes "sync", at_end commands.Sync) ∷ (codes "settle", at_end commands.Settle)
    ∷ (codes "insert", insert_words) ∷ (codes "pull", pull_words) ∷ (codes "nop", nop_words)
    ∷ (codes "concat", concat_words) ∷ (codes "stripe", stripe_words) ∷ (codes "append", append_words)
    ∷ (codes "destroy", destroy_words) ∷ (codes "label", label_words) ∷ (codes "relabel", relabel_words)
    ∷ (codes "mark", mark_words) ∷ (codes "mesh", at_end commands.Mesh) ∷ []
