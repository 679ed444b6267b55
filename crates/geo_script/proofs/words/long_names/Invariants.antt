use Rattle.std.proofs.Common.{◌≡◌, ◌-◌, ◌≤◌, length, vec_len}
use Rattle.geo_base.specs.declared.limits.TheConstants.{MAX_COMPONENTS}
use Rattle.geo_model.specs.Script.{names_within}
use Rattle.geo_script.proofs.FormLemmas.{after, room}
use Rattle.geo_script.proofs.words.long_names.Given as goal

-- the names so far, with those of the words that are left, are what all the words give
abbrev pub invariant-loop-names : goal.invariant-loop-names
invariant-loop-names l = record {
  read : after l.names.items (names_within (room l.names.items) l.words) ≡ names_within MAX_COMPONENTS l.fn.words;
  few : length l.names.items ≤ MAX_COMPONENTS;
  some : 1 ≤ length l.fn.words;
}

abbrev pub decreases-loop-names : goal.decreases-loop-names
decreases-loop-names l = MAX_COMPONENTS - vec_len l.names
