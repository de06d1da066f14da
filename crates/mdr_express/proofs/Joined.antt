-- Two facts, told as a pair.

pub joined : {A B C : Type 0} → A × B → (A → B → C) → C
joined (a, b) f = f a b
