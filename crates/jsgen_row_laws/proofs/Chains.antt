-- Logical operations. A right operand with the same operator goes on with the chain, and what is read groups from the left.
use Rattle.std.proofs.Common.{◌≡◌, Bool, true, false, not, ◌&&◌, ◌==◌, cond, [], ◌∷◌, refl, sym, ap, ◌∙◌, subst₂, arith}
use Rattle.std.proofs.lemmas.Bool.{both_ways, and_parts, eqb-true, not-true}
use Rattle.jsgen_syntax.specs.Precedence.{rank}
use Rattle.jsgen_syntax.specs.Operator.{logical_level, logical_lower_level}
use Rattle.jsgen_syntax.specs.declared.operator.LogicalOperator.{LogicalOperator}
use Rattle.jsgen_syntax.specs.declared.operator.LogicalOperator.TheVariants.{Or, And, Coalesce}
use Rattle.jsgen_syntax.specs.declared.precedence.Precedence.{Precedence}
use Rattle.jsgen_syntax.specs.declared.precedence.Precedence.TheVariants as levels
use Rattle.jsgen_tree.specs.Job.{Tables}
use Rattle.jsgen_tree.specs.Inside.{inside_parentheses}
use Rattle.jsgen_tree.specs.Atom.{logical_operator}
use Rattle.jsgen_tree.specs.Tree.{Tree, Atoms}
use Rattle.jsgen_tree.specs.Places.{bare}
use Rattle.jsgen_tree.specs.Values.{logical_expression_operator}
use Rattle.jsgen_tree.specs.Nodes as tree
use Rattle.jsgen_model.specs.Punctuator.{Punctuator, and_and, or_or, nullish}
use Rattle.jsgen_model.specs.Tokens.{Tokens, piece, ◌⧺◌, Sign}
use Rattle.jsgen_model.specs.Items.{◌⊕◌, soft_space, punctuator, annotation_before_it}
use Rattle.jsgen_model.specs.Layout.{other_end, layout}
use Rattle.jsgen_model.specs.Grammar.{Allowed, Level, ReadsExpression}
use Rattle.jsgen_model.specs.Grammar as grammar
use Rattle.jsgen_model.specs.Normal.{normal, chain, links, joined}
use Rattle.jsgen_model.specs.Renamed.{renamed}
use Rattle.jsgen_place.specs.declared.place.Place.{Place}
use Rattle.jsgen_place.specs.Place.{within, left_operand, child, wraps, continues_chain, logical_wraps}
use Rattle.jsgen_model.specs.Spell.{spell, unmixed, mixes, before_expression}
use Rattle.jsgen_model.specs.Operators.{logical_item}
use Rattle.jsgen_token_laws.proofs.Last.{After, Ready, Remembers, NoDot}
use Rattle.jsgen_token_laws.proofs.Writes.{then_assoc}
use Rattle.jsgen_token_laws.proofs.Steps.{wrote_punctuator}
use Rattle.jsgen_row_laws.proofs.Levels.{number_of, operation_number, operand_level, level_of, under, looser, read_at, same_rank, lifted, unwrapped}
use Rattle.jsgen_row_laws.proofs.Asked.{is_mixed}
use Rattle.jsgen_row_laws.proofs.Joined.{joined_assoc}
use Rattle.jsgen_row_laws.proofs.Good.{Good, Printed, Between, good_at, good_since, good_wrapped, good_infix, PrintedBy}
use Rattle.jsgen_row_laws.proofs.Marks.{behind_comments}

-- ---- the token between the operands

abbrev logical_sign : LogicalOperator → Punctuator
logical_sign Or = or_or
logical_sign And = and_and
logical_sign Coalesce = nullish

pub punctuator_between : {names : Tables} (s : Punctuator) → NoDot s → Remembers s other_end → Ready (After (Sign s)) → Between names (punctuator s) (Sign s)
punctuator_between s n m y = record { writes = λ p l o k. wrote_punctuator s p l n m o k; semicolon = λ p. refl; ready = y; no_function = λ line ts. refl }

logical_between : {names : Tables} (o : LogicalOperator) → Between names (logical_item o) (Sign (logical_sign o))
logical_between Or = punctuator_between or_or tt tt tt
logical_between And = punctuator_between and_and tt tt tt
logical_between Coalesce = punctuator_between nullish tt tt tt

-- ---- the levels

-- of an operation, and of each of its operands, where the right one may go on with the chain
abbrev own_goal : LogicalOperator → Level
own_goal Or = grammar.LogicalOr
own_goal And = grammar.LogicalAnd
own_goal Coalesce = grammar.ShortCircuit

abbrev operand_goal : LogicalOperator → Level
operand_goal Or = grammar.LogicalOr
operand_goal And = grammar.LogicalAnd
operand_goal Coalesce = grammar.CoalesceHead

own_level : {c : Allowed} {ts : Tokens} {u : Tree} (no_call : Bool) (o : LogicalOperator) → ReadsExpression c (own_goal o) ts u → ReadsExpression c (read_at no_call (looser (logical_level o))) ts u
own_level no_call Or r = r
own_level no_call And r = r
own_level no_call Coalesce r = r

chain_level : {c : Allowed} {ts : Tokens} {u : Tree} (no_call : Bool) (o : LogicalOperator) → ReadsExpression c (own_goal o) ts u → ReadsExpression c (operand_level false no_call (logical_level o)) ts u
chain_level no_call Or r = r
chain_level no_call And r = r
chain_level no_call Coalesce r = r

-- an operation without parentheses: a right operand may go on with the chain
unwrapped_chain : {c : Allowed} {ts : Tokens} {u : Tree} (o : LogicalOperator) (place : Place) → logical_wraps o place ≡ false → ReadsExpression c (own_goal o) ts u → ReadsExpression c (level_of place) ts u
unwrapped_chain {c} {ts} {u} o place h r = by (wraps (logical_level o) place) refl h
  where
    goes : continues_chain o place ≡ true → ReadsExpression c (level_of place) ts u
    goes e =
        let k = and_parts (not place.left_operand) (rank (logical_level o) == rank place.level) e in
        subst₂ (λ left level. ReadsExpression c (operand_level left place.context.forbids_call level) ts u) (sym (not-true place.left_operand k.0)) (same_rank (logical_level o) place.level (eqb-true (rank (logical_level o)) (rank place.level) k.1)) (chain_level place.context.forbids_call o r)

    by_goes : (g : Bool) → continues_chain o place ≡ g → not g ≡ false → ReadsExpression c (level_of place) ts u
    by_goes true e n = goes e
    by_goes false e n = absurd (both_ways true n refl)

    by : (w : Bool) → wraps (logical_level o) place ≡ w → (w && not (continues_chain o place)) ≡ false → ReadsExpression c (level_of place) ts u
    by false e n = unwrapped (logical_level o) place e (own_level place.context.forbids_call o r)
    by true e n = by_goes (continues_chain o place) refl n

-- ---- chains

-- two operands, of which the right one may be a chain, are read as one chain
abbrev Joined : Allowed → LogicalOperator → Level → Tokens → Tree → Tree → Type 0
Joined c o g ts u v = (w : Tree) × ReadsExpression c g ts w × (normal w ≡ chain (bare (logical_operator o ∷ [])) (joined (links o (normal u)) (links o (normal v))))

join_or : {c : Allowed} {g : Level} {b : Tokens} {v : Tree} (a : Tokens) (u : Tree) (line : Bool) → g ≡ grammar.LogicalOr → ReadsExpression c grammar.LogicalOr a u → ReadsExpression c g b v → Joined c Or grammar.LogicalOr (a ⧺ piece line (Sign or_or) b) u v
join_or {v = v} a u line d r (grammar.a_logical_and s) = (tree.logical (bare (logical_operator Or ∷ [])) u v, grammar.a_disjunction line refl r s, refl)
join_or a u line d r (grammar.a_disjunction {a = e} {b = f} {l = x} {r = y} m q s t) =
    let h = join_or a u line refl r s in (
      tree.logical (bare (logical_operator Or ∷ [])) h.0 y,
      grammar.a_disjunction m (ap (λ ts. a ⧺ piece line (Sign or_or) ts) q ∙ sym (then_assoc a (piece line (Sign or_or) e) (piece m (Sign or_or) f))) h.1 t,
      ap (λ k. chain (bare (logical_operator Or ∷ [])) (joined (links Or k) (links Or (normal y)))) h.2 ∙ ap (λ ts. chain (bare (logical_operator Or ∷ [])) ts) (joined_assoc (links Or (normal u)) (links Or (normal x)) (links Or (normal y))),
    )
join_or a u line d r (grammar.an_operation o m p h q s t) = absurd (omega (arith, operation_number o, ap number_of d))
join_or a u line d r s = absurd (omega (arith, ap number_of d))

join_and : {c : Allowed} {g : Level} {b : Tokens} {v : Tree} (a : Tokens) (u : Tree) (line : Bool) → g ≡ grammar.LogicalAnd → ReadsExpression c grammar.LogicalAnd a u → ReadsExpression c g b v → Joined c And grammar.LogicalAnd (a ⧺ piece line (Sign and_and) b) u v
join_and {v = v} a u line d r (grammar.a_bit_or s) = (tree.logical (bare (logical_operator And ∷ [])) u v, grammar.a_conjunction line refl r s, refl)
join_and a u line d r (grammar.a_conjunction {a = e} {b = f} {l = x} {r = y} m q s t) =
    let h = join_and a u line refl r s in (
      tree.logical (bare (logical_operator And ∷ [])) h.0 y,
      grammar.a_conjunction m (ap (λ ts. a ⧺ piece line (Sign and_and) ts) q ∙ sym (then_assoc a (piece line (Sign and_and) e) (piece m (Sign and_and) f))) h.1 t,
      ap (λ k. chain (bare (logical_operator And ∷ [])) (joined (links And k) (links And (normal y)))) h.2 ∙ ap (λ ts. chain (bare (logical_operator And ∷ [])) ts) (joined_assoc (links And (normal u)) (links And (normal x)) (links And (normal y))),
    )
join_and a u line d r (grammar.an_operation o m p h q s t) = absurd (omega (arith, operation_number o, ap number_of d))
join_and a u line d r s = absurd (omega (arith, ap number_of d))

-- with a chain to the right, or with one operand
mutual
  join_coalesced : {c : Allowed} {g : Level} {b : Tokens} {v : Tree} (a : Tokens) (u : Tree) (line : Bool) → g ≡ grammar.Coalesced → ReadsExpression c grammar.CoalesceHead a u → ReadsExpression c g b v → Joined c Coalesce grammar.Coalesced (a ⧺ piece line (Sign nullish) b) u v
  join_coalesced a u line d r (grammar.a_coalescing {a = e} {b = f} {l = x} {r = y} m q s t) =
      let h = join_coalesce a u line refl r s in (
        tree.logical (bare (logical_operator Coalesce ∷ [])) h.0 y,
        grammar.a_coalescing m (ap (λ ts. a ⧺ piece line (Sign nullish) ts) q ∙ sym (then_assoc a (piece line (Sign nullish) e) (piece m (Sign nullish) f))) (grammar.a_coalesced_head h.1) t,
        ap (λ k. chain (bare (logical_operator Coalesce ∷ [])) (joined (links Coalesce k) (links Coalesce (normal y)))) h.2 ∙ ap (λ ts. chain (bare (logical_operator Coalesce ∷ [])) ts) (joined_assoc (links Coalesce (normal u)) (links Coalesce (normal x)) (links Coalesce (normal y))),
      )
  join_coalesced a u line d r (grammar.an_operation o m p h q s t) = absurd (omega (arith, operation_number o, ap number_of d))
  join_coalesced a u line d r s = absurd (omega (arith, ap number_of d))

  join_coalesce : {c : Allowed} {g : Level} {b : Tokens} {v : Tree} (a : Tokens) (u : Tree) (line : Bool) → g ≡ grammar.CoalesceHead → ReadsExpression c grammar.CoalesceHead a u → ReadsExpression c g b v → Joined c Coalesce grammar.Coalesced (a ⧺ piece line (Sign nullish) b) u v
  join_coalesce {v = v} a u line d r (grammar.a_bit_or_head s) = (tree.logical (bare (logical_operator Coalesce ∷ [])) u v, grammar.a_coalescing line refl r s, refl)
  join_coalesce a u line d r (grammar.a_coalesced_head s) = join_coalesced a u line refl r s
  join_coalesce a u line d r (grammar.an_operation o m p h q s t) = absurd (omega (arith, operation_number o, ap number_of d))
  join_coalesce a u line d r s = absurd (omega (arith, ap number_of d))

join : {c : Allowed} {b : Tokens} {v : Tree} (o : LogicalOperator) (a : Tokens) (u : Tree) (line : Bool) → ReadsExpression c (operand_goal o) a u → ReadsExpression c (operand_goal o) b v → Joined c o (own_goal o) (a ⧺ piece line (Sign (logical_sign o)) b) u v
join Or a u line r s = join_or a u line refl r s
join And a u line r s = join_and a u line refl r s
join Coalesce a u line r s = let h = join_coalesce a u line refl r s in (h.0, grammar.a_coalesce h.1, h.2)

-- ---- the operands of `??`

-- what is read as neither may stand in a chain of `??`
-- by the level at which it is read
head_at_and : {c : Allowed} {g : Level} {ts : Tokens} {u : Tree} → g ≡ grammar.LogicalAnd → is_mixed (normal u) ≡ false → ReadsExpression c g ts u → ReadsExpression c grammar.CoalesceHead ts u
head_at_and d h (grammar.a_bit_or r) = grammar.a_bit_or_head r
head_at_and d h (grammar.a_conjunction m e r s) = absurd (both_ways true h refl)
head_at_and d h (grammar.an_operation o m p k q s t) = absurd (omega (arith, operation_number o, ap number_of d))
head_at_and d h r = absurd (omega (arith, ap number_of d))

head_at_or : {c : Allowed} {g : Level} {ts : Tokens} {u : Tree} → g ≡ grammar.LogicalOr → is_mixed (normal u) ≡ false → ReadsExpression c g ts u → ReadsExpression c grammar.CoalesceHead ts u
head_at_or d h (grammar.a_logical_and r) = head_at_and refl h r
head_at_or d h (grammar.a_disjunction m e r s) = absurd (both_ways true h refl)
head_at_or d h (grammar.an_operation o m p k q s t) = absurd (omega (arith, operation_number o, ap number_of d))
head_at_or d h r = absurd (omega (arith, ap number_of d))

head_at_short : {c : Allowed} {g : Level} {ts : Tokens} {u : Tree} → g ≡ grammar.ShortCircuit → is_mixed (normal u) ≡ false → ReadsExpression c g ts u → ReadsExpression c grammar.CoalesceHead ts u
head_at_short d h (grammar.a_coalesce r) = grammar.a_coalesced_head r
head_at_short d h (grammar.a_logical_or r) = head_at_or refl h r
head_at_short d h (grammar.an_operation o m p k q s t) = absurd (omega (arith, operation_number o, ap number_of d))
head_at_short d h r = absurd (omega (arith, ap number_of d))

-- in parentheses where it mixes
head_there : {names : Tables} (c : Allowed) (t : Tree) (at : Precedence → Place) (level : Precedence) → is_mixed (normal (renamed names t)) ≡ mixes (inside_parentheses t) → PrintedBy names c grammar.Update (spell t (at levels.Prefix)) t
    → PrintedBy names c grammar.ShortCircuit (spell t (at level)) t → PrintedBy names c grammar.CoalesceHead (spell t (at (unmixed Coalesce t level))) t
head_there {names} c t at level e f g p l z y k = go (mixes (inside_parentheses t)) e
  where
    go : (b : Bool) → is_mixed (normal (renamed names t)) ≡ b → Good names p l (layout (spell t (at (cond b levels.Prefix level))) p) c grammar.CoalesceHead t
    go true m = good_at (λ ts u r. grammar.a_bit_or_head (lifted false levels.Prefix levels.LogicalAnd (omega arith) r)) (f p l z y k)
    go false m = good_since (λ ts u s r. head_at_short refl (ap is_mixed s ∙ m) r) (g p l z y k)

left_printed : {names : Tables} (o : LogicalOperator) (c : Allowed) (t : Tree) → Printed names c t → is_mixed (normal (renamed names t)) ≡ mixes (inside_parentheses t) → (place : Place) → PrintedBy names (under place c) (operand_goal o) (spell t (left_operand (unmixed o t (logical_lower_level o)) place)) t
left_printed Or c t f m place = f (left_operand levels.NullishCoalescing place)
left_printed And c t f m place = f (left_operand levels.LogicalOr place)
left_printed Coalesce c t f m place = head_there (under place c) t (λ level. left_operand level place) levels.Conditional m (f (left_operand levels.Prefix place)) (f (left_operand levels.Conditional place))

right_printed : {names : Tables} (o : LogicalOperator) (c : Allowed) (t : Tree) → Printed names c t → is_mixed (normal (renamed names t)) ≡ mixes (inside_parentheses t) → (place : Place) → PrintedBy names (under place c) (operand_goal o) (spell t (child (unmixed o t (logical_level o)) place)) t
right_printed Or c t f m place = f (child levels.LogicalOr place)
right_printed And c t f m place = f (child levels.LogicalAnd place)
right_printed Coalesce c t f m place = head_there (under place c) t (λ level. child level place) levels.NullishCoalescing m (f (child levels.Prefix place)) (f (child levels.NullishCoalescing place))

-- ---- the whole

same_chain : (o : LogicalOperator) (u v x y : Tree) → normal u ≡ normal x → normal v ≡ normal y → chain (bare (logical_operator o ∷ [])) (joined (links o (normal u)) (links o (normal v))) ≡ chain (bare (logical_operator o ∷ [])) (joined (links o (normal x)) (links o (normal y)))
same_chain o u v x y e f = λ i. chain (bare (logical_operator o ∷ [])) (joined (links o (e i)) (links o (f i)))

pub good_logical_operation : {names : Tables} (c : Allowed) (a : Atoms) (x y : Tree) → Printed names c x → Printed names c y → is_mixed (normal (renamed names x)) ≡ mixes (inside_parentheses x) → is_mixed (normal (renamed names y)) ≡ mixes (inside_parentheses y) → Printed names c (tree.logical a x y)
good_logical_operation {names} c a x y f g mx my place =
    let o : LogicalOperator = logical_expression_operator a in
    good_wrapped c place (own_goal o) (logical_wraps o place) (λ w. spell x (left_operand (unmixed o x (logical_lower_level o)) (within w place)) ⊕ (soft_space ⊕ (logical_item o ⊕ (soft_space ⊕ (before_expression annotation_before_it y ⊕ spell y (child (unmixed o y (logical_level o)) (within w place))))))) (tree.logical a x y)
    (λ d ts u r. lifted false (looser (logical_level o)) levels.Lowest (omega arith) (own_level false o r)) (λ e ts u r. unwrapped_chain o place e r)
    (λ v e. good_infix (logical_item o) (Sign (logical_sign o)) (spell x (left_operand (unmixed o x (logical_lower_level o)) (within v place))) (before_expression annotation_before_it y ⊕ spell y (child (unmixed o y (logical_level o)) (within v place))) x y (tree.logical a x y) (under (within v place) c) (operand_goal o) (operand_goal o) (own_goal o) (logical_between o)
    (λ ts us line u w ru rw eu ew. let h = join o ts u line ru rw in (h.0, h.1, h.2 ∙ same_chain o u w (renamed names x) (renamed names y) eu ew)) (left_printed o c x f mx (within v place)) (behind_comments annotation_before_it y (spell y (child (unmixed o y (logical_level o)) (within v place))) (right_printed o c y g my (within v place))))
