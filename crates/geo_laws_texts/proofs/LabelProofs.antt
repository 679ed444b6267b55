-- What labels of both versions come to.
use Rattle.std.proofs.Common.{◌*◌, refl, ap, ◌∙◌}
use Rattle.std.proofs.lemmas.Bool.{eq-eqb, ne_eqb}
use Rattle.std.specs.Prelude.{not, if◌then◌else◌}
use Rattle.geo_base.specs.declared.decline.DeclineCause.TheVariants as causes
use Rattle.geo_model.specs.declared.class.Shape.TheVariants.{Named}
use Rattle.geo_model.specs.declared.class.Verdict.TheVariants.{Accept, Decline}
use Rattle.geo_model.specs.Acceptance.{label_verdict}
use Rattle.geo_model.proofs.RecordLemmas.{label-read}
use Rattle.geo_laws_texts.specs.LabelLaws.{LabelsAreJudged, VersionsMakeTheSame, new_label, old_label}

-- a label of version 1 is accepted, one of version 2 exactly where its media size is the provider's
pub labels_are_judged : LabelsAreJudged
labels_are_judged sector name media f short fits = record {
  old = ap (label_verdict f) (label-read sector (old_label name) short tt);
  same =
      λ e. ap (label_verdict f) (label-read sector (new_label name media) short fits)
      ∙ ap (λ b. if not b then Decline causes.Media else Accept (Named (new_label name media)))
      (eq-eqb media (f.sectors * f.sector) e);
  other =
      λ e. ap (label_verdict f) (label-read sector (new_label name media) short fits)
      ∙ ap (λ b. if not b then Decline causes.Media else Accept (Named (new_label name media)))
      (ne_eqb media (f.sectors * f.sector) e);
}

-- what is made of a label is the same for both versions
pub versions_make_the_same : VersionsMakeTheSame
versions_make_the_same q p name media = refl
