-- Groups by their offsets, as the map has them.
use Rattle.std.proofs.Common.{◌≡◌, ℕ, Bool, true, false, not, cond, ◌||◌, ◌==◌, nat_lt, if◌then◌else◌, List, [], ◌∷◌, ◌++◌, length, map, Some, None, Vec, refl, sym, ap, ◌∙◌, append_assoc, arith}
use Rattle.std.specs.declared.alloc.Global.{Global}
use Rattle.std.specs.BTreeMap.{insert_entry}
use Rattle.std.specs.BTreeSet.{insert_key}
use Rattle.std.specs.List.{list_any, filter}
use Rattle.std.specs.Map.{lookup, remove_entry}
use Rattle.std.specs.declared.cmp.Ordering.TheVariants.{Less, Equal, Greater}
use Rattle.std.specs.Ordering.{nat_cmp, match_ordering}
use Rattle.std.proofs.lemmas.Bool.{eqb-true, ne_eqb, true≢false, false≢true, not-false}
use Rattle.std.proofs.lemmas.List.{map-append, append-nil}
use Rattle.jsgen_tree.specs.declared.statements.Comment as tree
use Rattle.jsgen_model.specs.Comments.{Comment, Groups, Store, there, without, with_group, with_offset, unless_none, are_any, outlives, outliving, others, without_outliving, orphans_at, left_at, orphans_below, left_below}
use Rattle.jsgen_model.specs.Groups.{is_for_tools, is_key, is_key_annotation, is_tool_annotation}
use Rattle.jsgen_comments.specs.declared.comments.Comments.{Comments}
use Rattle.jsgen_comments.proofs.Places as places
use Rattle.jsgen_comments.proofs.Places.{at}
use Rattle.jsgen_comments.specs.Plain.{comment_plain, first_below, behind_first, store_of}

abbrev pub Entries : Type 0
Entries = List (ℕ × Vec tree.Comment Global)

abbrev pub comments_of : List ℕ → List tree.Comment → List Comment
comments_of source cs = map (comment_plain source) cs

abbrev own : List ℕ → Vec tree.Comment Global → List Comment
own source v = comments_of source v.items

abbrev pub groups_of : List ℕ → Entries → Groups
groups_of source es = places.groups_of (own source) es

-- ---- the look-ups of the map

pub found : (source : List ℕ) (o : ℕ) (es : Entries) (v : Vec tree.Comment Global) → Some v ≡ lookup (at o) es → comments_of source v.items ≡ there o (groups_of source es)
found source o es v h = places.found (own source) o es v h

pub absent : (source : List ℕ) (o : ℕ) (es : Entries) → None ≡ lookup (at o) es → [] ≡ there o (groups_of source es)
absent source o es h = places.absent (own source) o es h

pub left : (source : List ℕ) (o : ℕ) (es : Entries) → groups_of source (remove_entry (at o) es) ≡ without o (groups_of source es)
left source o es = places.left (own source) o es

pub inserted : (source : List ℕ) (o : ℕ) (es : Entries) (v : Vec tree.Comment Global) → groups_of source (insert_entry nat_cmp es o v) ≡ with_group o (comments_of source v.items) (groups_of source es)
inserted source o es v = places.inserted (own source) o es v

pub with_key : (o : ℕ) (ks : List ℕ) → insert_key nat_cmp ks o ≡ with_offset o ks
with_key o [] = refl
with_key o (k ∷ ks) = by (with_key o ks) (nat_lt o k) (o == k)
  where
    by : insert_key nat_cmp ks o ≡ with_offset o ks → (b d : Bool) → match_ordering (cond b Less (cond d Equal Greater)) (o ∷ k ∷ ks) (k ∷ ks) (k ∷ insert_key nat_cmp ks o) ≡ (if b then o ∷ (k ∷ ks) else (if d then k ∷ ks else k ∷ with_offset o ks))
    by rest true d = refl
    by rest false true = refl
    by rest false false = ap (λ ps. k ∷ ps) rest

-- ---- what waits

pub same_store : (gs hs : Groups) (os ps : List ℕ) → gs ≡ hs → os ≡ ps → ◌≡◌ {A = Store} (record { groups = gs; orphans = os }) (record { groups = hs; orphans = ps })
same_store gs hs os ps g o = ap (λ x. store x os) g ∙ ap (store hs) o
  where
    store : Groups → List ℕ → Store
    store gs os = record { groups = gs; orphans = os }

-- one more comment
pub grown : (source : List ℕ) (o : ℕ) (c : tree.Comment) (es ds fs : Entries) (v w : Vec tree.Comment Global) → comments_of source v.items ≡ there o (groups_of source es) → w.items ≡ v.items ++ c ∷ [] → ds ≡ remove_entry (at o) es → fs ≡ insert_entry nat_cmp ds o w → groups_of source fs ≡ with_group o (there o (groups_of source es) ++ comment_plain source c ∷ []) (without o (groups_of source es))
grown source o c es ds fs v w is push out in_again =
    ap (groups_of source) in_again
    ∙ (inserted source o ds w
    ∙ (ap (λ x. with_group o (comments_of source w.items) x) (ap (groups_of source) out ∙ left source o es)
    ∙ ap (λ x. with_group o x (without o (groups_of source es))) (ap (comments_of source) push ∙ (map-append (comment_plain source) v.items (c ∷ []) ∙ ap (λ x. x ++ comment_plain source c ∷ []) is))))

pub with_orphan : (b : Bool) (o : ℕ) (os ps : List ℕ) → b ≡ true → ps ≡ insert_key nat_cmp os o → ps ≡ (if b then with_offset o os else os)
with_orphan true o os ps t e = e ∙ with_key o os
with_orphan false o os ps t e = absurd (false≢true t)

pub no_orphan : (b : Bool) (o : ℕ) (os : List ℕ) → b ≡ false → os ≡ (if b then with_offset o os else os)
no_orphan true o os t = absurd (true≢false t)
no_orphan false o os t = refl

-- ---- questions

pub any_of : (source : List ℕ) (cs : List tree.Comment) → not (length cs == 0) ≡ are_any (comments_of source cs)
any_of source [] = refl
any_of source (c ∷ cs) = ap not (ne_eqb (length (c ∷ cs)) 0 (λ e. omega arith))

pub keys_among : (source : List ℕ) (cs : List tree.Comment) → list_any (λ (c : tree.Comment). is_key c.content) cs ≡ list_any is_key_annotation (comments_of source cs)
keys_among source [] = refl
keys_among source (c ∷ cs) = ap (λ b. is_key c.content || b) (keys_among source cs)

pub for_tools_among : (source : List ℕ) (cs : List tree.Comment) → list_any (λ (c : tree.Comment). is_for_tools c.content) cs ≡ list_any is_tool_annotation (comments_of source cs)
for_tools_among source [] = refl
for_tools_among source (c ∷ cs) = ap (λ b. is_for_tools c.content || b) (for_tools_among source cs)

-- ---- those that outlive their places

pub outliving_of : (source : List ℕ) (cs : List tree.Comment) → comments_of source (filter (λ (c : tree.Comment). outlives c.content) cs) ≡ outliving (comments_of source cs)
outliving_of source [] = refl
outliving_of source (c ∷ cs) = by (outliving_of source cs) (outlives c.content)
  where
    by : comments_of source (filter (λ (c : tree.Comment). outlives c.content) cs) ≡ outliving (comments_of source cs) → (b : Bool) → comments_of source (cond b (c ∷ filter (λ (c : tree.Comment). outlives c.content) cs) (filter (λ (c : tree.Comment). outlives c.content) cs)) ≡ cond b (comment_plain source c ∷ outliving (comments_of source cs)) (outliving (comments_of source cs))
    by rest true = ap (λ ds. comment_plain source c ∷ ds) rest
    by rest false = rest

pub others_of : (source : List ℕ) (cs : List tree.Comment) → comments_of source (filter (λ (c : tree.Comment). not (outlives c.content)) cs) ≡ others (comments_of source cs)
others_of source [] = refl
others_of source (c ∷ cs) = by (others_of source cs) (not (outlives c.content))
  where
    by : comments_of source (filter (λ (c : tree.Comment). not (outlives c.content)) cs) ≡ others (comments_of source cs) → (b : Bool) → comments_of source (cond b (c ∷ filter (λ (c : tree.Comment). not (outlives c.content)) cs) (filter (λ (c : tree.Comment). not (outlives c.content)) cs)) ≡ cond b (comment_plain source c ∷ others (comments_of source cs)) (others (comments_of source cs))
    by rest true = ap (λ ds. comment_plain source c ∷ ds) rest
    by rest false = rest

-- the list with those of a group
pub with_outliving : (source : List ℕ) (o : ℕ) (es : Entries) (cs before behind : List tree.Comment) → comments_of source cs ≡ there o (groups_of source es) → behind ≡ before ++ filter (λ (c : tree.Comment). outlives c.content) cs → comments_of source behind ≡ comments_of source before ++ outliving (there o (groups_of source es))
with_outliving source o es cs before behind is e =
    ap (comments_of source) e
    ∙ (map-append (comment_plain source) before (filter (λ (c : tree.Comment). outlives c.content) cs)
    ∙ ap (λ x. comments_of source before ++ x) (outliving_of source cs ∙ ap outliving is))

-- and with none, where no group is there
pub with_none : (source : List ℕ) (o : ℕ) (es : Entries) (before : List tree.Comment) → [] ≡ there o (groups_of source es) → comments_of source before ≡ comments_of source before ++ outliving (there o (groups_of source es))
with_none source o es before is = sym (append-nil (comments_of source before)) ∙ ap (λ x. comments_of source before ++ outliving x) is

-- the groups without them
pub without_none : (source : List ℕ) (o : ℕ) (es ds : Entries) → [] ≡ there o (groups_of source es) → ds ≡ remove_entry (at o) es → groups_of source ds ≡ without_outliving o (groups_of source es)
without_none source o es ds is out = ap (groups_of source) out ∙ (left source o es ∙ ap (λ x. unless_none o (others x) (without o (groups_of source es))) is)

all_out : (source : List ℕ) (o : ℕ) (es : Entries) (cs ds : List tree.Comment) → comments_of source cs ≡ there o (groups_of source es) → ds ≡ filter (λ (c : tree.Comment). not (outlives c.content)) cs → comments_of source ds ≡ others (there o (groups_of source es))
all_out source o es cs ds is e = ap (comments_of source) e ∙ (others_of source cs ∙ ap others is)

pub without_all : (source : List ℕ) (o : ℕ) (es fs : Entries) (cs ds : List tree.Comment) → comments_of source cs ≡ there o (groups_of source es) → ds ≡ filter (λ (c : tree.Comment). not (outlives c.content)) cs → not (length ds == 0) ≡ false → fs ≡ remove_entry (at o) es → groups_of source fs ≡ without_outliving o (groups_of source es)
without_all source o es fs cs ds is e none out = ap (groups_of source) out ∙ (left source o es ∙ (by ds none ∙ ap (λ x. unless_none o x (without o (groups_of source es))) (all_out source o es cs ds is e)))
  where
    by : (ds : List tree.Comment) → not (length ds == 0) ≡ false → without o (groups_of source es) ≡ unless_none o (comments_of source ds) (without o (groups_of source es))
    by [] n = refl
    by (d ∷ ds) n = let h : length (d ∷ ds) ≡ 0 = eqb-true (length (d ∷ ds)) 0 (not-false (length (d ∷ ds) == 0) n) in absurd (omega arith)

pub without_some : (source : List ℕ) (o : ℕ) (es fs hs : Entries) (cs : List tree.Comment) (v : Vec tree.Comment Global) → comments_of source cs ≡ there o (groups_of source es) → v.items ≡ filter (λ (c : tree.Comment). not (outlives c.content)) cs → not (length v.items == 0) ≡ true → fs ≡ remove_entry (at o) es → hs ≡ insert_entry nat_cmp fs o v → groups_of source hs ≡ without_outliving o (groups_of source es)
without_some source o es fs hs cs v is e some out in_again =
    ap (groups_of source) in_again
    ∙ (inserted source o fs v
    ∙ (ap (λ x. with_group o (comments_of source v.items) x) (ap (groups_of source) out ∙ left source o es)
    ∙ (by v.items some ∙ ap (λ x. unless_none o x (without o (groups_of source es))) (all_out source o es cs v.items is e))))
  where
    by : (ds : List tree.Comment) → not (length ds == 0) ≡ true → with_group o (comments_of source ds) (without o (groups_of source es)) ≡ unless_none o (comments_of source ds) (without o (groups_of source es))
    by [] n = absurd (false≢true n)
    by (d ∷ ds) n = refl

-- ---- orphans

-- the first leaves
taken_first : (n o : ℕ) (ks ps : List ℕ) (gs : Groups) → Some o ≡ first_below n ks → ps ≡ behind_first n ks → (outliving (there o gs) ++ orphans_at n ps (without_outliving o gs) ≡ orphans_at n ks gs) × (left_at n ps (without_outliving o gs) ≡ left_at n ks gs)
taken_first n o [] ps gs h e = absurd (cc)
taken_first n o (k ∷ ks) ps gs h e = by (nat_lt k n) h e
  where
    by : (b : Bool) → Some o ≡ (if b then Some k else None) → ps ≡ (if b then ks else k ∷ ks) → (outliving (there o gs) ++ orphans_at n ps (without_outliving o gs) ≡ (if b then outliving (there k gs) ++ orphans_at n ks (without_outliving k gs) else [])) × (left_at n ps (without_outliving o gs) ≡ (if b then left_at n ks (without_outliving k gs) else record { groups = gs; orphans = k ∷ ks }))
    by true h e =
        let q : o ≡ k = cc in (
          ap (λ x. outliving (there x gs) ++ orphans_at n ps (without_outliving x gs)) q ∙ ap (λ x. outliving (there k gs) ++ orphans_at n x (without_outliving k gs)) e,
          ap (λ x. left_at n ps (without_outliving x gs)) q ∙ ap (λ x. left_at n x (without_outliving k gs)) e,
        )
    by false h e = absurd (cc)

-- of what waits (a) the first offset leaves (b), and those there that outlive their places go to the end of a list (d)
pub orphan_moved : (a b d : Comments) (before behind : List tree.Comment) (n o : ℕ) → Some o ≡ first_below n a.orphans.keys → b.orphans.keys ≡ behind_first n a.orphans.keys → b.source ≡ a.source → b.groups ≡ a.groups → d.source ≡ b.source → comments_of b.source.now behind ≡ comments_of b.source.now before ++ outliving (there o (store_of b).groups) → store_of d ≡ record (store_of b) { groups = without_outliving o (store_of b).groups } → (comments_of d.source.now behind ++ orphans_below n (store_of d) ≡ comments_of a.source.now before ++ orphans_below n (store_of a)) × (left_below n (store_of d) ≡ left_below n (store_of a))
orphan_moved a b d before behind n o first rest source groups same moved out =
    let ks = a.orphans.keys in
    let gs = (store_of b).groups in
    let own = comments_of b.source.now before in
    let gone = outliving (there o gs) in
    let t = taken_first n o ks b.orphans.keys gs first rest in
    let is : gs ≡ (store_of a).groups = ap (λ s. groups_of s.now b.groups.entries) source ∙ ap (λ g. groups_of a.source.now g.entries) groups in (
      ap (λ s. comments_of s.now behind ++ orphans_below n (store_of d)) same
          ∙ (ap (λ x. x ++ orphans_below n (store_of d)) moved
          ∙ (append_assoc own gone (orphans_below n (store_of d))
          ∙ (ap (λ st. own ++ (gone ++ orphans_below n st)) out
          ∙ (ap (λ x. own ++ x) t.0
          ∙ (ap (λ s. comments_of s.now before ++ orphans_at n ks gs) source
          ∙ ap (λ x. comments_of a.source.now before ++ orphans_at n ks x) is))))),
      ap (left_below n) out ∙ (t.1 ∙ ap (left_at n ks) is),
    )
