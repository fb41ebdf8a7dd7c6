-- the header field `Plural-Forms`
pub mod PluralTokens
pub mod PluralExpressions
pub mod PluralViews
pub mod PluralValues
pub mod PluralHeaders
pub mod PluralErrors
pub mod PluralAnswers
-- not definitions of the subject
pub mod Inner
