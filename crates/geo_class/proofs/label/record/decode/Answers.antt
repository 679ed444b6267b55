use Rattle.std.proofs.Common.{◌≡◌, [], List, ℕ, Option, sym, ap, ◌∙◌, Ok, Result}
use Rattle.std.proofs.lemmas.Result.{err_from_is_err_and}
use Rattle.geo_model.specs.DeclineCause.{DeclineCause}
use Rattle.geo_model.specs.declared.class.LabelRecord.{LabelRecord}
use Rattle.geo_model.specs.Records.{label_magic, label_record, label_size, record_name}
use Rattle.geo_model.specs.Words.{unless}
use Rattle.geo_class.specs.Head.{head_name}
use Rattle.geo_class.proofs.AnswerLemmas.{head_name-ok, unless-declined}
use Rattle.geo_class.proofs.label.record.decode.Goals as goal

-- the record of this name and media size
abbrev record_of : List ℕ → Option ℕ → LabelRecord
record_of name size = record { name = name; size = size }

-- a head that is declined declines the record, for the same cause
pub returns-in_err-name : goal.returns-in_err-name
returns-in_err-name c =
    let same = err_from_is_err_and c.from_residual.result c.from_residual.ensures.1 in
    rw (same.1, same.2)
    (unless-declined label_magic 2 c.args.sector.now []
    (record_of (record_name c.args.sector.now) (label_size c.args.sector.now))
    c.in_err-name.field-0.0.cause c.in_err-name.ensures)

-- a head that is in order, with this name, and this media size
decoded : (bytes name : List ℕ) (size : Option ℕ) → Ok name ≡ head_name label_magic 2 bytes → size ≡ label_size bytes
    → ◌≡◌ {A = Result LabelRecord DeclineCause} (Ok (record_of name size)) (label_record bytes)
decoded bytes name size found sized =
    let head = head_name-ok label_magic 2 bytes name found in
    sym (ap (λ e. unless e (record_of (record_name bytes) (label_size bytes))) head.0
    ∙ ap (λ named. Ok (record_of named (label_size bytes))) head.1 ∙ ap (λ s. Ok (record_of name s)) (sym sized))

pub returns : goal.returns
returns c = decoded c.args.sector.now c.in_ok-name.name c.media_size.result c.in_ok-name.ensures c.media_size.ensures
