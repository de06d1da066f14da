pub mod TypeLaws
