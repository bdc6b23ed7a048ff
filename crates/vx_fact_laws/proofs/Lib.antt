mod FactSteps
mod CallFacts
mod CountRows
