-- What is written at the end.
use Rattle.std.proofs.Common.{◌≡◌, ◌≢◌, ℕ, ◌-◌, ◌<◌, List, [], ◌∷◌, ◌++◌, length, take, refl, sym, ◌∙◌, ap, append_assoc, rules}
use Rattle.std.proofs.lemmas.List.{take-append-drop}
use Rattle.geo_io.specs.Counts.{FailedAtLast, raised}
use Rattle.geo_headline.specs.Endings.{Ending, due_text}
use Rattle.geo_headline.specs.Outside.{SinkView}
use Rattle.geo_run.specs.declared.stop.Stop.{Stop}
use Rattle.geo_run.specs.declared.stop.Stop.TheVariants as stops
use Rattle.geo_run.specs.Stops.{ending_of}
use Rattle.geo_run.specs.Writes.{Writes, WritesEnding}

-- only a first part is written
pub cut_off : (due n : ℕ) (text : List ℕ) (before after : SinkView) → n < length text
    → after.taken ≡ before.taken ++ take n text → FailedAtLast before.faults after.faults after.failed
    → Writes 4 due text before after
cut_off due n text before after less took failed = search (rules, take-append-drop n text)

not_empty : (xs ys : List ℕ) → xs ≢ [] → xs ++ ys ≢ []
not_empty [] ys some e = some refl
not_empty (x ∷ xs) ys some e = cc

-- a part of the first text is a part of both
pub cut_off_first : (due n : ℕ) (first last : List ℕ) (before after : SinkView) → n < length first
    → after.taken ≡ before.taken ++ take n first → FailedAtLast before.faults after.faults after.failed
    → Writes 4 due (first ++ last) before after
cut_off_first due n first last before after less took failed =
    let w = cut_off due n first before after less took failed in
    let begun = w.cut_off refl in
    record {
      written = w.written;
      took = w.took;
      cut_off = λ four. record {
        fault = failed;
        rest = begun.rest ++ last;
        some_left = not_empty begun.rest last begun.some_left;
        front = sym (append_assoc w.written begun.rest last) ∙ ap (λ bs. bs ++ last) begun.front;
      };
      whole = λ ne. absurd (ne refl);
      told = λ ne. absurd (ne refl);
    }

-- a text is written behind one that was taken
pub behind : (status due : ℕ) (first last : List ℕ) (a b c : SinkView) → b.taken ≡ a.taken ++ first
    → b.faults ≡ a.faults → Writes status due last b c → Writes status due (first ++ last) a c
behind status due first last a b c taken told w = record {
  written = first ++ w.written;
  took = w.took ∙ ap (λ bs. bs ++ w.written) taken ∙ append_assoc a.taken first w.written;
  cut_off = λ four. let begun = w.cut_off four in
      record {
        fault = record { one = begun.fault.one ∙ ap raised told; last = begun.fault.last };
        rest = begun.rest;
        some_left = begun.some_left;
        front = append_assoc first w.written begun.rest ∙ ap (λ bs. first ++ bs) begun.front;
      };
  whole = λ ne. let all = w.whole ne in (all.0, ap (λ bs. first ++ bs) all.1);
  told = λ ne. w.told ne ∙ told;
}

-- three texts, and four, of which the first is written first
pub three : (status due : ℕ) (a b c : List ℕ) (before after : SinkView) → Writes status due (a ++ (b ++ c)) before after
    → Writes status due (a ++ b ++ c) before after
three status due a b c before after w = rw (append_assoc a b c) w

pub four : (status due : ℕ) (a b c d : List ℕ) (before after : SinkView)
    → Writes status due (a ++ (b ++ c ++ d)) before after → Writes status due (a ++ b ++ c ++ d) before after
four status due a b c d before after w = rw (append_assoc a b c, append_assoc a (b ++ c) d) w

-- an ending under another name
pub same_ends : (reported : List ℕ) (ending other : Ending) (status : ℕ) (before after : SinkView) → other ≡ ending
    → WritesEnding reported ending status before after → WritesEnding reported other status before after
same_ends reported ending other status before after e h = search rules

-- where the report is another name for the text
pub reported_ends : (text reported : List ℕ) (ending : Ending) (status : ℕ) (before after : SinkView) → text ≡ reported
    → WritesEnding text ending status before after → WritesEnding reported ending status before after
reported_ends text reported ending status before after e h = search rules

-- why there is no report doesn't depend on what is reported
pub stop_ends : (reported : List ℕ) (stop : Stop) (status : ℕ) (before after : SinkView)
    → WritesEnding [] (ending_of stop) status before after → WritesEnding reported (ending_of stop) status before after
stop_ends reported stop status before after w = rw (← due_same stop) w
  where
    due_same : (s : Stop) → due_text [] (ending_of s) ≡ due_text reported (ending_of s)
    due_same stops.BadWords = refl
    due_same _ = refl
