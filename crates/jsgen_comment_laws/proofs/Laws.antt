-- Comments of a valid program stand in its text.
use Rattle.std.proofs.Common.{◌≡◌, ℕ, ◌≤◌, ◌<◌, ◌⊎◌, inl, inr, Bool, true, false, ◌&&◌, ◌||◌, ◌==◌, nat_le, List, [], ◌∷◌, ◌++◌, map, refl, sym, ap, subst, ◌∙◌, arith}
use Rattle.std.proofs.lemmas.Bool.{leb-true, eq-eqb, cases_order}
use Rattle.std.proofs.lemmas.Bool as bools
use Rattle.jsgen_tree.specs.Job.{JobData}
use Rattle.jsgen_tree.specs.Tree.{Tree}
use Rattle.jsgen_tree.specs.Nodes as tree
use Rattle.jsgen_tree.specs.Everywhere.{Everywhere}
use Rattle.jsgen_place.specs.Place.{among_statements}
use Rattle.jsgen_model.specs.Items.{Items, ◌⊕◌, comments, all_of_them, orphans, due_semicolon}
use Rattle.jsgen_model.specs.Comments.{Groups, comment_at, is_outliving, orphans_below, left_below}
use Rattle.jsgen_model.specs.Ends.{moved_licences}
use Rattle.jsgen_model.specs.Groups.{with_store}
use Rattle.jsgen_model.specs.Layout.{Pen}
use Rattle.jsgen_model.specs.Lay.{lay}
use Rattle.jsgen_model.specs.Plain.{is_formed}
use Rattle.jsgen_model.specs.Valid.{Surroundings, breaches, IsValid, surroundings_of}
use Rattle.jsgen_model.specs.Spell.{spell, spell_if_given, spell_directives, spell_body, comments_in, source_bytes, first_pen, printed}
use Rattle.jsgen_comment_laws.specs.Stand.{Waiting, one_if, count, has_to_stand, is_before, kept_comments, annotation_comments}
use Rattle.jsgen_comment_laws.specs.Woven.{is_white, dark_of, bones, without_comments, Woven}
use Rattle.jsgen_comment_laws.specs.Law.{AddsWoven, CommentsStandIn}
use Rattle.jsgen_comment_laws.proofs.Counts.{waiting_in, count_both}
use Rattle.jsgen_comment_laws.proofs.Writes.{adds_licences, writes_group}
use Rattle.jsgen_comment_laws.proofs.Stores.{Sound, outlives_at, none_below}
use Rattle.jsgen_comment_laws.proofs.Weaves.{Held}
use Rattle.jsgen_comment_laws.proofs.Steps.{lay_does, lay_goes}
use Rattle.jsgen_comment_laws.proofs.Alike.{alike}
use Rattle.jsgen_comment_laws.proofs.Kept.{kept_is_sound, kept_are, all_kept, all_annotations, indent_is_white, indent_is_blank}
use Rattle.jsgen_comment_laws.proofs.Takes.{stays_gone, takes_comments, count_either, none_passes, body_taken, directives_taken}
use Rattle.jsgen_comment_laws.proofs.Members.{members}

-- ---- those that outlive their places, up to an offset

abbrev reaches : ℕ → Waiting → Bool
reaches n w = is_outliving w.comment && nat_le w.offset n

none_up_to : (n : ℕ) (ws : List Waiting) → ((p : ℕ) → p ≤ n → count (outlives_at p) ws ≡ 0) → count (reaches n) ws ≡ 0
none_up_to n [] h = refl
none_up_to n (w ∷ ws) h =
    let first = by (nat_le w.offset n) refl in
    let rest = none_up_to n ws (λ p l. let all = h p l in omega (arith, all)) in
    omega (arith, first, rest)
  where
    at_its_own : (b : Bool) → (w.offset == w.offset) ≡ b → one_if (b && is_outliving w.comment) ≡ 0 → one_if (is_outliving w.comment && true) ≡ 0
    at_its_own true e z = alone (is_outliving w.comment) z
      where
        alone : (c : Bool) → one_if c ≡ 0 → one_if (c && true) ≡ 0
        alone true z = z
        alone false z = z
    at_its_own false e z = absurd (bools.true≢false (sym (eq-eqb w.offset w.offset refl) ∙ e))

    never : (c : Bool) → one_if (c && false) ≡ 0
    never true = refl
    never false = refl

    by : (b : Bool) → nat_le w.offset n ≡ b → one_if (is_outliving w.comment && b) ≡ 0
    by true e = at_its_own (w.offset == w.offset) refl (let all = h w.offset (leb-true w.offset n e) in omega (arith, all))
    by false e = never (is_outliving w.comment)

-- ---- none that has to stand is left

abbrev pub NoneLeft : Tree → Groups → Type 0
NoneLeft t gs = (f : Waiting → Bool) → count (λ w. has_to_stand t w && f w) (waiting_in gs) ≡ 0

-- behind the orphans before an offset, and the group there, none is left up to there
ends_without : (n : ℕ) (p : Pen) → Sound p.store → (q : ℕ) → q ≤ n → count (outlives_at q) (waiting_in (lay (orphans n ⊕ (due_semicolon ⊕ comments all_of_them n)) p).store.groups) ≡ 0
ends_without n p h q l = by (cases_order q n)
  where
    p1 : Pen
    p1 = lay (orphans n) p

    s1 : Sound p1.store
    s1 = (lay_goes (orphans n) p h).sound

    p2 : Pen
    p2 = lay due_semicolon p1

    s2 : Sound p2.store
    s2 = (lay_goes due_semicolon p1 s1).sound

    gone : q < n → count (outlives_at q) (waiting_in p1.store.groups) ≡ 0
    gone k = subst (λ s. count (outlives_at q) (waiting_in s.groups) ≡ 0) (sym (writes_group true (orphans_below n p.store) (with_store (left_below n p.store) p)).adds.store) (none_below n p.store h q k)

    by : (q ≡ n) ⊎ ((q < n) ⊎ (n < q)) → count (outlives_at q) (waiting_in (lay (comments all_of_them n) p2).store.groups) ≡ 0
    by (inl e) = subst (λ m. count (outlives_at m) (waiting_in (lay (comments all_of_them n) p2).store.groups) ≡ 0) (sym e) ((takes_comments n).none p2 s2 (λ w. is_outliving w.comment))
    by (inr (inl k)) = stays_gone (outlives_at q) (due_semicolon ⊕ comments all_of_them n) p1 s1 (gone k)
    by (inr (inr k)) = absurd (omega (arith, k, l))

none_left : (next : ℕ) (around : Surroundings) (t : Tree) → Everywhere is_formed t → breaches around next t ≡ [] → (p : Pen) → Sound p.store → NoneLeft t (lay (spell t among_statements) p).store.groups
none_left next around (tree.program a rows hashbang directives body) formed e p h f =
    let m = members next around a rows hashbang directives body formed e in
    let end = a.span.end in
    let first = comments all_of_them 0 in
    let bang = spell_if_given hashbang among_statements in
    let head = spell_directives directives in
    let inside = spell_body body in
    let last = orphans end ⊕ (due_semicolon ⊕ comments all_of_them end) in
    let p1 : Pen = lay first p in
    let s1 : Sound p1.store = (lay_goes first p h).sound in
    let p2 : Pen = lay bang p1 in
    let s2 : Sound p2.store = (lay_goes bang p1 s1).sound in
    let p3 : Pen = lay head p2 in
    let s3 : Sound p3.store = (lay_goes head p2 s2).sound in
    let p4 : Pen = lay inside p3 in
    let s4 : Sound p4.store = (lay_goes inside p3 s3).sound in
    let ws = waiting_in (lay last p4).store.groups in
    let of_directives = stays_gone (λ w. is_before directives w && f w) (inside ⊕ last) p3 s3 (directives_taken directives m.0 p2 s2 f) in
    let of_body = stays_gone (λ w. is_before body w && f w) last p4 s4 (body_taken body m.1 p3 s3 f) in
    let of_end = none_up_to end ws (ends_without end p4 s4) in
    let most = count_either (λ w. is_before directives w || is_before body w) (reaches end) f ws in
    let most_members = count_either (is_before directives) (is_before body) f ws in
    let most_at_end = count_both (reaches end) f ws in
    omega (arith, of_directives, of_body, of_end, most, most_members, most_at_end)
none_left next around t formed e p h f = none_passes f (waiting_in (lay (spell t among_statements) p).store.groups)

-- ---- the law

none_counted : (ws : List Waiting) → count (λ _. true) ws ≡ 0 → ws ≡ []
none_counted [] e = refl
none_counted (w ∷ ws) e = absurd (omega (arith, e))

-- what items add where no comment waits
pub items_are_woven : (items : Items) (p : Pen) → is_white p.style.indent ≡ true → AddsWoven items (without_comments p)
items_are_woven items p w =
    let q : Pen = without_comments p in
    let d = lay_does [] [] items q in
    let sound : Sound q.store = record { groups = tt; orphans = tt; covers = λ p e. refl } in
    let a = d.goes sound in
    let all = a.all (λ _. true) in
    let none : a.printed ≡ [] = none_counted a.printed (omega (arith, all)) in
    let v = d.weaves (record { store = tt; annotations = tt; white = w }) sound in
    record { text = v.text; is = v.code; woven = subst (λ ws. Woven [] [] (bones items q) ws (dark_of v.text)) none v.woven }

-- the whole text, where it begins with them
nothing_woven : (items : Items) (p : Pen) → is_white p.style.indent ≡ true → p.code ≡ [] → Woven [] [] (bones items (without_comments p)) [] (dark_of (lay items (without_comments p)).code)
nothing_woven items p w e =
    let v = items_are_woven items p w in
    subst (λ t. Woven [] [] (bones items (without_comments p)) [] (dark_of t)) (sym (v.is ∙ ap (λ x. x ++ v.text) e)) v.woven

pub comments_stand : (job : JobData) → Everywhere is_formed job.program → IsValid job → CommentsStandIn job (printed job)
comments_stand job formed valid =
    let o = job.options.comments in
    let source = source_bytes job in
    let rows = comments_in job.program in
    let p : Pen = first_pen job in
    let items = spell job.program among_statements in
    let q : Pen = lay items p in
    let sound = kept_is_sound o source rows in
    let d = lay_does (kept_comments job) (annotation_comments job) items p in
    let a = d.goes sound in
    let held : Held (kept_comments job) (annotation_comments job) p = record { store = all_kept o source rows; annotations = all_annotations o source rows; white = indent_is_white job.options.indent_char } in
    let end = adds_licences o.legal (map (comment_at source) (moved_licences o.legal source rows)) q in
    let none = none_left 0 (surroundings_of job) job.program formed valid p sound in
    let v = d.weaves held sound in
    record {
      body = a.text;
      end = end.text;
      is = end.code ∙ ap (λ x. x ++ end.text) a.code;
      ends = (q, end.code);
      comments = a.printed;
      stand = a.stand (indent_is_blank job.options.indent_char);
      once = λ test. let all = a.all test in let kept = kept_are test o source rows in omega (arith, all, kept);
      all = λ test.
          let asked = λ (w : Waiting). has_to_stand job.program w && test w in
          let all = a.all asked in
          let kept = kept_are asked o source rows in
          let left = none test in
          omega (arith, all, kept, left);
      woven =
          let same = (alike items p (without_comments p) (indent_is_white job.options.indent_char) refl refl).same in
          subst (λ bs. Woven (kept_comments job) (annotation_comments job) bs a.printed (dark_of a.text)) (sym same) (subst (λ t. Woven (kept_comments job) (annotation_comments job) (bones items p) a.printed (dark_of t)) (sym v.code ∙ a.code) v.woven);
      bare = nothing_woven items p (indent_is_white job.options.indent_char) refl;
    }
