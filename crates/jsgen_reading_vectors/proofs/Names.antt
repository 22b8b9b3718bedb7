-- Generated from tools/vectors/chosen.json; edit that and run tools/vectors/generate.
-- Words and names.
use Rattle.std.proofs.Common.{◌≡◌, true, Some, codes, refl}
use lib.Utf8.{encode}
use Rattle.unicode_ident.proofs.Computing.{unicode_ident}
use Rattle.jsgen_syntax.specs.Escapes.{word_value}
use Rattle.jsgen_syntax.specs.Name.{is_reserved, is_strict_reserved, is_free_name}

pub value_A : word_value (codes "A") ≡ Some (codes "A")
unfolding word_value
value_A = refl

pub value_B : word_value (codes "B") ≡ Some (codes "B")
unfolding word_value
value_B = refl

pub value__u0061s : word_value (codes "\\u0061s") ≡ Some (codes "as")
unfolding word_value
value__u0061s = refl

pub value__u0061sync : word_value (codes "\\u0061sync") ≡ Some (codes "async")
unfolding word_value
value__u0061sync = refl

pub value__u0062 : word_value (codes "\\u0062") ≡ Some (codes "b")
unfolding word_value
value__u0062 = refl

pub value_a : word_value (codes "a") ≡ Some (codes "a")
unfolding word_value
value_a = refl

pub value_as : word_value (codes "as") ≡ Some (codes "as")
unfolding word_value
value_as = refl

pub value_async : word_value (codes "async") ≡ Some (codes "async")
unfolding word_value
value_async = refl

pub value_await : word_value (codes "await") ≡ Some (codes "await")
unfolding word_value
value_await = refl

pub value_b : word_value (codes "b") ≡ Some (codes "b")
unfolding word_value
value_b = refl

pub value_c : word_value (codes "c") ≡ Some (codes "c")
unfolding word_value
value_c = refl

pub value_constructor : word_value (codes "constructor") ≡ Some (codes "constructor")
unfolding word_value
value_constructor = refl

pub value_d : word_value (codes "d") ≡ Some (codes "d")
unfolding word_value
value_d = refl

pub value_d_u0065fault : word_value (codes "d\\u0065fault") ≡ Some (codes "default")
unfolding word_value
value_d_u0065fault = refl

pub value_default : word_value (codes "default") ≡ Some (codes "default")
unfolding word_value
value_default = refl

pub value_e : word_value (codes "e") ≡ Some (codes "e")
unfolding word_value
value_e = refl

pub value_f : word_value (codes "f") ≡ Some (codes "f")
unfolding word_value
value_f = refl

pub value_from : word_value (codes "from") ≡ Some (codes "from")
unfolding word_value
value_from = refl

pub value_g : word_value (codes "g") ≡ Some (codes "g")
unfolding word_value
value_g = refl

pub value_g_u0065t : word_value (codes "g\\u0065t") ≡ Some (codes "get")
unfolding word_value
value_g_u0065t = refl

pub value_get : word_value (codes "get") ≡ Some (codes "get")
unfolding word_value
value_get = refl

pub value_i_u0066 : word_value (codes "i\\u0066") ≡ Some (codes "if")
unfolding word_value
value_i_u0066 = refl

pub value_if : word_value (codes "if") ≡ Some (codes "if")
unfolding word_value
value_if = refl

pub value_if_u0066 : word_value (codes "if\\u0066") ≡ Some (codes "iff")
unfolding word_value
value_if_u0066 = refl

pub value_let : word_value (codes "let") ≡ Some (codes "let")
unfolding word_value
value_let = refl

pub value_m : word_value (codes "m") ≡ Some (codes "m")
unfolding word_value
value_m = refl

pub value_of : word_value (codes "of") ≡ Some (codes "of")
unfolding word_value
value_of = refl

pub value_s_u0065t : word_value (codes "s\\u0065t") ≡ Some (codes "set")
unfolding word_value
value_s_u0065t = refl

pub value_set : word_value (codes "set") ≡ Some (codes "set")
unfolding word_value
value_set = refl

pub value_st_u0061tic : word_value (codes "st\\u0061tic") ≡ Some (codes "static")
unfolding word_value
value_st_u0061tic = refl

pub value_static : word_value (codes "static") ≡ Some (codes "static")
unfolding word_value
value_static = refl

pub value_type : word_value (codes "type") ≡ Some (codes "type")
unfolding word_value
value_type = refl

pub value_x : word_value (codes "x") ≡ Some (codes "x")
unfolding word_value
value_x = refl

pub value_y : word_value (codes "y") ≡ Some (codes "y")
unfolding word_value
value_y = refl

pub value_yield : word_value (codes "yield") ≡ Some (codes "yield")
unfolding word_value
value_yield = refl

pub free_A : is_free_name (codes "A") ≡ true
unfolding unicode_ident is_reserved is_strict_reserved encode
free_A = refl

pub free_B : is_free_name (codes "B") ≡ true
unfolding unicode_ident is_reserved is_strict_reserved encode
free_B = refl

pub free_a : is_free_name (codes "a") ≡ true
unfolding unicode_ident is_reserved is_strict_reserved encode
free_a = refl

pub free_as : is_free_name (codes "as") ≡ true
unfolding unicode_ident is_reserved is_strict_reserved encode
free_as = refl

pub free_async : is_free_name (codes "async") ≡ true
unfolding unicode_ident is_reserved is_strict_reserved encode
free_async = refl

pub free_b : is_free_name (codes "b") ≡ true
unfolding unicode_ident is_reserved is_strict_reserved encode
free_b = refl

pub free_c : is_free_name (codes "c") ≡ true
unfolding unicode_ident is_reserved is_strict_reserved encode
free_c = refl

pub free_d : is_free_name (codes "d") ≡ true
unfolding unicode_ident is_reserved is_strict_reserved encode
free_d = refl

pub free_e : is_free_name (codes "e") ≡ true
unfolding unicode_ident is_reserved is_strict_reserved encode
free_e = refl

pub free_f : is_free_name (codes "f") ≡ true
unfolding unicode_ident is_reserved is_strict_reserved encode
free_f = refl

pub free_from : is_free_name (codes "from") ≡ true
unfolding unicode_ident is_reserved is_strict_reserved encode
free_from = refl

pub free_g : is_free_name (codes "g") ≡ true
unfolding unicode_ident is_reserved is_strict_reserved encode
free_g = refl

pub free_get : is_free_name (codes "get") ≡ true
unfolding unicode_ident is_reserved is_strict_reserved encode
free_get = refl

pub free_of : is_free_name (codes "of") ≡ true
unfolding unicode_ident is_reserved is_strict_reserved encode
free_of = refl

pub free_set : is_free_name (codes "set") ≡ true
unfolding unicode_ident is_reserved is_strict_reserved encode
free_set = refl

pub free_x : is_free_name (codes "x") ≡ true
unfolding unicode_ident is_reserved is_strict_reserved encode
free_x = refl

pub free_y : is_free_name (codes "y") ≡ true
unfolding unicode_ident is_reserved is_strict_reserved encode
free_y = refl
