-- What a choice gives between something and another thing, or nothing.
use Rattle.std.proofs.Common.{◌≡◌, Bool, true, false, cond, Option, Some, None, refl}
use Rattle.std.proofs.lemmas.Bool.{cond_both}

pub some_is : {X : Type 0} {x y : X} → Some x ≡ Some y → x ≡ y
some_is h = cc

pub none_is : {X : Type 0} {x : X} → None ≡ Some x → ⊥
none_is h = cc

pub either : {X : Type 0} (b : Bool) (r s : X) (P : X → Type 0) → (b ≡ true → P r) → P s → P (cond b r s)
either b r s P h k = cond_both b r s P h (λ e. k)

pub chosen : {X : Type 0} (b : Bool) (r : Option X) (x : X) → cond b r None ≡ Some x → (b ≡ true) × (r ≡ Some x)
chosen true r x h = (refl, h)
chosen false r x h = absurd (none_is h)
