-- Annotations as they are woven: those of the source, or as they are written where it has none.
use Rattle.std.specs.Prelude.{⊤, Contains}
use Rattle.std.proofs.Common.{◌≡◌, inl, inr, ℕ, Bool, true, false, ◌||◌, not, cond, List, [], ◌∷◌, codes, refl, sym, ap, subst, ◌∙◌, append-nil}
use Rattle.std.specs.List.{filter}
use Rattle.std.proofs.lemmas.Bool.{and_parts}
use Rattle.jsgen_model.specs.Items.{Annotation, no_side_effects}
use Rattle.jsgen_model.specs.Comments.{Comment, there}
use Rattle.jsgen_model.specs.Groups.{indented_if, code_ends_in, is_line, annotation_text, says, fits, fitting_at, without_annotation, annotation_by, annotation_written, annotation_at, annotation_line_at}
use Rattle.jsgen_model.specs.Layout.{Pen, Start, other_end, written_if, begun_at}
use Rattle.jsgen_comment_laws.specs.Stand.{Waiting}
use Rattle.jsgen_comment_laws.specs.Woven.{is_white, dark_of, no_bones, annotation_gap, IsAnnotation, Woven}
use Rattle.jsgen_comment_laws.proofs.Writes.{Writes, stays, writes, writes_if, adds, writes_comment, indents_if, ends_line_here}
use Rattle.jsgen_comment_laws.proofs.Stores.{keeps_texts, keeps_adds}
use Rattle.jsgen_comment_laws.proofs.Held as helds
use Rattle.jsgen_comment_laws.proofs.Held.{Every, every_there, every_without, every_filtered}
use Rattle.jsgen_comment_laws.proofs.Weaves.{Held, Does, does_then, does_last, white}

-- each says what the annotation says
abbrev pub AllSay : Annotation → List Comment → Type 0
AllSay kind [] = ⊤
AllSay kind (c ∷ cs) = (says kind c.content ≡ true) × AllSay kind cs

fitting_say : (ends : Bool) (kind : Annotation) (cs : List Comment) → AllSay kind (filter (fits ends kind) cs)
fitting_say ends kind [] = tt
fitting_say ends kind (c ∷ cs) = by (fits ends kind c) refl (fitting_say ends kind cs)
  where
    by : (b : Bool) → fits ends kind c ≡ b → AllSay kind (filter (fits ends kind) cs) → AllSay kind (cond b (c ∷ filter (fits ends kind) cs) (filter (fits ends kind) cs))
    by true e rest = ((and_parts (says kind c.content) (ends || not (is_line c.kind)) e).0, rest)
    by false e rest = rest

module _ (k a : List Waiting) where
  alone : (kind : Annotation) (o : ℕ) (bytes : List ℕ) → IsAnnotation a kind o bytes → Woven k a (annotation_gap kind o no_bones) [] bytes
  alone kind o bytes h = record { first = bytes; second = []; is = sym (append-nil bytes); one = h; other = (refl, refl) }

  annotates_by : (cs : List Comment) (kind : Annotation) (o : ℕ) (p : Pen) → AllSay kind cs → (Held k a p → Every (Contains a) o cs) → Does k a (annotation_gap kind o no_bones) p (annotation_by cs kind o p)
  annotates_by [] kind o p s e = record {
    goes = keeps_adds (adds (annotation_text kind) other_end p);
    weaves = λ h sound. record {
      text = annotation_text kind;
      code = refl;
      woven = alone kind o (dark_of (annotation_text kind)) (inl refl);
      held = record { store = h.store; annotations = h.annotations; white = h.white };
    };
  }
  annotates_by (c ∷ cs) kind o p s e = record {
    goes = keeps_texts (record { text = w.adds.text; code = w.adds.code; style = w.adds.style; store = w.adds.store });
    weaves = λ h sound. record {
      text = w.adds.text;
      code = w.adds.code;
      woven = alone kind o (dark_of w.adds.text) (inr (c, ((e h).0, (s.0, (w.adds.text, ((without_annotation o p, w.adds.code), refl))))));
      held = record {
        store = subst (λ st. helds.EveryIn (Contains k) st.groups) (sym w.adds.store) h.store;
        annotations = subst (λ gs. helds.EveryIn (Contains a) gs) (sym w.adds.annotations) (every_without (Contains a) o p.annotations h.annotations);
        white = ap (λ st. is_white st.indent) w.adds.style ∙ h.white;
      };
    };
  }
    where
      w : Writes (c ∷ []) (without_annotation o p) (annotation_by (c ∷ cs) kind o p)
      w = writes_comment c (without_annotation o p)

  annotates : (line : Bool) (kind : Annotation) (o : ℕ) (p : Pen) → Does k a (annotation_gap kind o no_bones) p (annotation_written line kind o p)
  annotates line kind o p =
      let test : Bool = code_ends_in 47 p in
      let p1 : Pen = written_if test (codes " ") p in
      does_then k a (white k a (writes_if test (codes " ") p refl)) (annotates_by (fitting_at line kind o p) kind o p1 (fitting_say line kind (there o p.annotations)) (λ h. every_filtered (Contains a) (fits line kind) o (there o p.annotations) (every_there (Contains a) o p.annotations h.annotations)))

  pub does_annotation : (start : Start) (kind : Annotation) (o : ℕ) (p : Pen) → Does k a (annotation_gap kind o no_bones) p (begun_at start (annotation_at kind o p))
  does_annotation start kind o p =
      let p1 : Pen = annotation_written false kind o p in
      does_last k a (annotates false kind o p) (does_then k a (white k a (writes (codes " ") other_end p1 refl)) (white k a (stays (annotation_at kind o p) (begun_at start (annotation_at kind o p)) refl refl refl refl)))

  pub does_annotation_line : (indented : Bool) (o : ℕ) (p : Pen) → Does k a (annotation_gap no_side_effects o no_bones) p (annotation_line_at indented o p)
  does_annotation_line indented o p =
      let p1 : Pen = indented_if indented p in
      does_then k a (white k a (indents_if indented p)) (does_last k a (annotates true no_side_effects o p1) (white k a (ends_line_here (annotation_written true no_side_effects o p1))))
